use Rattle.std.proofs.Common.{sym, ◌∙◌, arith}
use Rattle.b67_image_shape.proofs.AreaReads.{owner_fits, owner_past, owner_absent, owner_elsewhere, owner_other}
use Rattle.std.proofs.lemmas.Bool.{OnTrue_from, OnFalse_from, eqb-true, eqb-false}
use Rattle.b67_image_shape.proofs.areas.area_fits.Goals as goal

pub returns-then-a-size-clause-not : goal.returns-then-a-size-clause-not
returns-then-a-size-clause-not c = owner_past c.args.core.now c.args.kinds.now c.args.at c.args.a c.requires (omega (arith, c.if-a-size.true, c.size.ensures.value))

pub returns-then-kinds-a-clause-not : goal.returns-then-kinds-a-clause-not
returns-then-kinds-a-clause-not c = λ f. c.if-kinds-a.true (f.owner ∙ sym c.kind_code.ensures)

pub returns-then-part-ne1-clause-not : goal.returns-then-part-ne1-clause-not
returns-then-part-ne1-clause-not c = owner_absent c.args.core.now c.args.kinds.now c.args.at c.args.a c.get-d.result c.part.result c.get-d.ensures c.part.ensures.value c.if-part-ne1.true

pub returns-then-part-at-clause-not : goal.returns-then-part-at-clause-not
returns-then-part-at-clause-not c = owner_elsewhere c.args.core.now c.args.kinds.now c.args.at c.args.a c.get-d.result c.part-2.result c.get-d.ensures c.part-2.ensures.value c.if-part-at.true

pub returns-clause-yes : goal.returns-clause-yes
returns-clause-yes c =
    OnTrue_from _ _ (λ e. owner_fits c.args.core.now c.args.kinds.now c.args.at c.args.a c.get-d.result c.part.result c.part-2.result c.part-3.result (c.if-kinds-a.false ∙ c.kind_code.ensures) c.get-d.ensures
    c.part.ensures.value c.if-part-ne1.false c.part-2.ensures.value c.if-part-at.false c.part-3.ensures.value (eqb-true c.part-3.result c.args.a.words e))

pub returns-clause-not : goal.returns-clause-not
returns-clause-not c = OnFalse_from _ _ (λ e. owner_other c.args.core.now c.args.kinds.now c.args.at c.args.a c.get-d.result c.part-3.result c.get-d.ensures c.part-3.ensures.value (eqb-false c.part-3.result c.args.a.words e))
