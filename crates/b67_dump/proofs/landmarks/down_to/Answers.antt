use Rattle.std.proofs.Common.{◌-◌, sym, ap, ◌∙◌, subst, arith}
use Rattle.b67_word.specs.Tagged.{bits_at}
use Rattle.b67_layout_shown.specs.Reading.{word_seen_at}
use Rattle.b67_dump.proofs.Nearest.{IsDown, begun, found, further}
use Rattle.b67_dump.proofs.landmarks.down_to.Goals as goal

pub down-init : goal.down-init
down-init c = λ marks upper le known some. begun c.args.core.now c.args.home upper marks c.args.from.mark c.args.from.number le (known some)

pub returns-then-from-home : goal.returns-then-from-home
returns-then-from-home c = λ marks upper le known some.
    found c.args.core.now c.args.home marks c.down.mark c.down.left (c.down.invariant marks upper le known c.down-test.true) c.down-test.true (omega (arith, c.if-from-home.true, c.from.ensures))

pub down-preserved : goal.down-preserved
down-preserved c = λ marks upper le known some.
    let back = c.part-back.ensures.value ∙ ap (λ w. bits_at w 0 14) (c.word_seen_at.ensures ∙ ap (word_seen_at c.args.core.now) c.from-in-down.ensures) in
    subst (λ at. IsDown c.args.core.now c.args.home marks at (c.down.left - 1)) (sym c.saturating_sub-mark.ensures)
    (further c.args.core.now c.args.home marks c.down.mark c.down.left c.part-back.result (c.down.invariant marks upper le known c.down-test.true) some (omega (arith, c.if-from-home.false, c.from.ensures)) (sym back))

pub returns : goal.returns
returns c = λ marks upper le known some. absurd (omega (arith, some))
