use Rattle.std.proofs.Common.{◌+◌, ◌∙◌, sym, ap, subst, arith}
use Rattle.b67_word.specs.Tagged.{bits_at}
use Rattle.b67_dump.proofs.Counted.{HasPassed, none_passed, last_passed, one_passed, all_passed}
use Rattle.b67_dump.proofs.walking.count_marks.Goals as goal

pub down-init : goal.down-init
down-init c = none_passed c.args.core.now c.args.turns c.args.mark

pub returns-then-back-eq0 : goal.returns-then-back-eq0
returns-then-back-eq0 c =
    last_passed c.args.core.now c.args.turns c.args.mark c.down.turn c.down.at c.part-back.result c.down.invariant c.down-test.true
    (sym (c.part-back.ensures.value ∙ ap (λ w. bits_at w 0 14) c.word_seen_at.ensures)) c.if-back-eq0.true

pub down-preserved : goal.down-preserved
down-preserved c =
    subst (HasPassed c.args.core.now c.args.turns c.args.mark (c.down.turn + 1)) (sym c.saturating_sub-at.ensures)
    (one_passed c.args.core.now c.args.turns c.args.mark c.down.turn c.down.at c.part-back.result c.down.invariant c.down-test.true
    (sym (c.part-back.ensures.value ∙ ap (λ w. bits_at w 0 14) c.word_seen_at.ensures)) (omega (arith, c.if-back-eq0.false)))

pub returns : goal.returns
returns c = all_passed c.args.core.now c.args.turns c.args.mark c.down.turn c.down.at c.down.invariant (omega (arith, c.down.auto.turn-end, c.down-test.false))
