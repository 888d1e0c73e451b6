use Rattle.b67_image_shape.proofs.AreaReads.{same_bits, other_tag, other_bits}
use Rattle.std.proofs.lemmas.Bool.{OnTrue_from, OnFalse_from, eqb-true, eqb-false}
use Rattle.b67_image_shape.proofs.areas.is_word.Goals as goal

pub returns-then-tag-clause-not : goal.returns-then-tag-clause-not
returns-then-tag-clause-not c = other_tag c.args.w c.args.tag c.args.bits c.tag.result c.tag.ensures.value c.if-tag.true

pub returns-clause-yes : goal.returns-clause-yes
returns-clause-yes c = OnTrue_from _ _ (λ e. same_bits c.args.w c.args.tag c.args.bits c.tag.result c.bits.result c.tag.ensures.value c.bits.ensures.value c.if-tag.false (eqb-true c.bits.result c.args.bits e))

pub returns-clause-not : goal.returns-clause-not
returns-clause-not c = OnFalse_from _ _ (λ e. other_bits c.args.w c.args.tag c.args.bits c.bits.result c.bits.ensures.value (eqb-false c.bits.result c.args.bits e))
