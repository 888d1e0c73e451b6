use Rattle.std.proofs.Common.{◌≡◌, ◌+◌, sym, ◌∙◌, ap, subst, arith}
use Rattle.b67_word.specs.Tagged.{bits_at}
use Rattle.b67_dump.specs.Landmarks.{IsBelow}
use Rattle.b67_dump.proofs.Stopped.{below_same, one_below}
use Rattle.b67_dump.proofs.walking.mark_below.Goals as goal

pub down-init : goal.down-init
down-init c = below_same c.args.core.now c.args.mark

pub down-preserved : goal.down-preserved
down-preserved c =
    subst (IsBelow c.args.core.now c.args.mark (c.down._step + 1)) (sym c.saturating_sub-at.ensures)
    (one_below c.args.core.now c.args.mark c.down._step c.down.at c.part.result c.down.invariant (sym (c.part.ensures.value ∙ ap (λ w. bits_at w 0 14) c.word_seen_at.ensures)))

pub returns : goal.returns
returns c = let end : c.down._step ≡ c.args.steps = omega (arith, c.down.auto._step-end, c.down-test.false) in subst (λ n. IsBelow c.args.core.now c.args.mark n c.down.at) end c.down.invariant
