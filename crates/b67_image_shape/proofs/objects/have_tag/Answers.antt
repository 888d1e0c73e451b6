use Rattle.std.proofs.Common.{◌+◌, sym, ◌∙◌, ap, arith}
use Rattle.b67_word.specs.Tagged.{Tagged}
use Rattle.b67_layout_shown.proofs.Stacks.{word_is}
use Rattle.b67_image_shape.proofs.ObjectTurns.{tags_next}
use Rattle.b67_image_shape.proofs.objects.have_tag.Goals as goal

pub each-init : goal.each-init
each-init c = λ i low. absurd (omega (arith, low))

pub returns-then-tag-clause-not : goal.returns-then-tag-clause-not
returns-then-tag-clause-not c = λ z. c.if-tag.true (c.tag.ensures.value ∙ sym (ap (λ (w : Tagged). w.tag) (word_is c.args.core.now (c.args.at + c.each.j) c.get.result c.get.ensures)) ∙ z c.each.j c.each-test.true)

pub each-preserved : goal.each-preserved
each-preserved c = tags_next c.args.core.now c.args.at c.each.j c.args.tag c.get.result c.each.invariant c.get.ensures (sym c.tag.ensures.value ∙ c.if-tag.false)

pub returns-clause-yes : goal.returns-clause-yes
returns-clause-yes c = λ i low. c.each.invariant i (omega (arith, low, c.each-test.false))
