use Rattle.std.proofs.Common.{◌<◌, ◌+◌, length, sym, ◌∙◌, arith}
use Rattle.b67_image_shape.proofs.AreaReads.{field_is}
use Rattle.b67_image_shape.proofs.AreaSteps.{some_hole, higher_hole, none_hole, area_goes_on, area_fails, owner_fails, owner_inside}
use Rattle.b67_image_shape.proofs.areas.past_span.Goals as goal

pub returns-then-part-eq3-clause-some : goal.returns-then-part-eq3-clause-some
returns-then-part-eq3-clause-some c =
    some_hole c.args.core.now c.args.kinds.now c.args.w c.args.housed.now c.past_hole.result (omega (arith, c.size-size.ensures.value, c.size-size.ensures.small)) c.requires.inside
    (field_is c.args.core.now c.args.w.at c.get.result 46 2 c.part.result c.get.ensures c.part.ensures.value ∙ c.if-part-eq3.true) c.past_hole.ensures.some

pub returns-then-part-eq3-clause-higher : goal.returns-then-part-eq3-clause-higher
returns-then-part-eq3-clause-higher c = higher_hole c.args.core.now c.args.w c.past_hole.result c.past_hole.ensures.some

pub returns-then-part-eq3-clause-none : goal.returns-then-part-eq3-clause-none
returns-then-part-eq3-clause-none c =
    none_hole c.args.core.now c.args.kinds.now c.args.w c.args.housed.now c.past_hole.result (omega (arith, c.size-size.ensures.value, c.size-size.ensures.small)) c.requires.inside
    (field_is c.args.core.now c.args.w.at c.get.result 46 2 c.part.result c.get.ensures c.part.ensures.value ∙ c.if-part-eq3.true) c.past_hole.ensures.none

pub returns-in_err-a-clause-none : goal.returns-in_err-a-clause-none
returns-in_err-a-clause-none c =
    rw c.from_residual.ensures (area_fails c.args.core.now c.args.kinds.now c.args.w c.args.housed.now (omega (arith, c.size-size.ensures.value, c.size-size.ensures.small)) c.requires.inside
    (λ e. c.if-part-eq3.false (sym (field_is c.args.core.now c.args.w.at c.get.result 46 2 c.part.result c.get.ensures c.part.ensures.value) ∙ e)) c.in_err-a.ensures.none)

pub returns-then-not-area_fits-clause-none : goal.returns-then-not-area_fits-clause-none
returns-then-not-area_fits-clause-none c =
    owner_fails c.args.core.now c.args.kinds.now c.args.w c.in_ok-a.a c.args.housed.now (omega (arith, c.size-size.ensures.value, c.size-size.ensures.small)) c.requires.inside
    (λ e. c.if-part-eq3.false (sym (field_is c.args.core.now c.args.w.at c.get.result 46 2 c.part.result c.get.ensures c.part.ensures.value) ∙ e)) c.in_ok-a.ensures.some.1 c.if-not-area_fits.ensures.not

pub bounds-housed-a : goal.bounds-housed-a
bounds-housed-a c =
    let f = owner_inside c.args.core.now c.args.kinds.now (c.args.w.at + 1) c.in_ok-a.a c.requires.kinds c.if-not-area_fits.ensures.yes in
    let h : c.in_ok-a.a.owner < length c.args.housed.now = omega (arith, f, c.requires.many) in
    h

pub returns-clause-some : goal.returns-clause-some
returns-clause-some c =
    area_goes_on c.args.core.now c.args.kinds.now c.args.w c.in_ok-a.a c.args.housed.now (omega (arith, c.size-size.ensures.value, c.size-size.ensures.small)) c.requires.kinds c.requires.inside
    (λ e. c.if-part-eq3.false (sym (field_is c.args.core.now c.args.w.at c.get.result 46 2 c.part.result c.get.ensures c.part.ensures.value) ∙ e)) c.in_ok-a.ensures.some c.if-not-area_fits.ensures.yes
