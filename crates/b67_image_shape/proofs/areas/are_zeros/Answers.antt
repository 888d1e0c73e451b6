use Rattle.std.proofs.Common.{Some, sym, ◌∙◌, ap, arith}
use Rattle.std.proofs.lemmas.Option.{same_Some}
use Rattle.b67_word.specs.Tagged.{word}
use Rattle.b67_image_shape.proofs.AreaSteps.{zeros_next}
use Rattle.b67_image_shape.proofs.areas.are_zeros.Goals as goal

pub each-init : goal.each-init
each-init c = λ j low high. absurd (omega (arith, low, high))

pub returns-then-not-is_word-clause-not : goal.returns-then-not-is_word-clause-not
returns-then-not-is_word-clause-not c = λ z. c.if-not-is_word.ensures.not (same_Some c.get.result (word 0 0) (sym c.get.ensures ∙ z c.each.i (omega (arith, c.each.auto.i)) c.each-test.true))

pub each-preserved : goal.each-preserved
each-preserved c = zeros_next c.args.core.now c.each.i c.each.invariant (c.get.ensures ∙ ap Some c.if-not-is_word.ensures.yes)

pub returns-clause-yes : goal.returns-clause-yes
returns-clause-yes c = λ j low high. c.each.invariant j low (omega (arith, high, c.each-test.false))
