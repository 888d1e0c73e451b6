use Rattle.std.proofs.Common.{arith}
use Rattle.b67_image_shape.proofs.Deciding.{on_true, on_false}
use Rattle.b67_image_shape.proofs.ObjectTurns.{housed_area, area_inside, not_housed, length_is, address_is, area_made, tags_of_area}
use Rattle.b67_image_shape.proofs.objects.has_area.Goals as goal

pub returns-then-not-objects-at-clause-not : goal.returns-then-not-objects-at-clause-not
returns-then-not-objects-at-clause-not c = not_housed c.args.objects.now.core.now c.args.objects.now.low c.args.objects.now.kinds.now c.args.objects.now.housed.now c.args.at c.args.kind c.requires.judged.walked c.if-not-objects-at.true

pub have_tag-requires : goal.have_tag-requires
have_tag-requires c =
    let e = housed_area c.args.objects.now.core.now c.args.objects.now.low c.args.objects.now.kinds.now c.args.objects.now.housed.now c.requires.judged.walked c.args.at c.args.kind c.requires.marked c.requires.present c.if-not-objects-at.false in
    let h = area_inside c.args.objects.now.core.now c.args.objects.now.low c.args.objects.now.kinds.now c.args.objects.now.housed.now c.requires.judged.walked c.args.at c.args.kind c.requires.marked c.requires.present e in
    let a = address_is c.args.objects.now.core.now c.args.at c.part-address.result c.get-w.result c.get-w.ensures c.part-address.ensures.value in
    let n = length_is c.args.objects.now.core.now c.args.at c.part-words.result c.get-w.result c.get-w.ensures c.part-words.ensures.value in
    omega (arith, h, a, n)

pub returns-clause-yes : goal.returns-clause-yes
returns-clause-yes c =
    let e = housed_area c.args.objects.now.core.now c.args.objects.now.low c.args.objects.now.kinds.now c.args.objects.now.housed.now c.requires.judged.walked c.args.at c.args.kind c.requires.marked c.requires.present c.if-not-objects-at.false in
    let a = address_is c.args.objects.now.core.now c.args.at c.part-address.result c.get-w.result c.get-w.ensures c.part-address.ensures.value in
    let n = length_is c.args.objects.now.core.now c.args.at c.part-words.result c.get-w.result c.get-w.ensures c.part-words.ensures.value in
    on_true c.have_tag.result (area_made c.args.objects.now.core.now c.args.objects.now.low c.args.at c.args.kind c.part-address.result c.part-words.result c.tag_of.result a n c.tag_of.ensures e) c.have_tag.ensures.yes

pub returns-clause-not : goal.returns-clause-not
returns-clause-not c =
    let a = address_is c.args.objects.now.core.now c.args.at c.part-address.result c.get-w.result c.get-w.ensures c.part-address.ensures.value in
    let n = length_is c.args.objects.now.core.now c.args.at c.part-words.result c.get-w.result c.get-w.ensures c.part-words.ensures.value in
    on_false c.have_tag.result (λ never h. never (tags_of_area c.args.objects.now.core.now c.args.objects.now.low c.args.at c.args.kind c.part-address.result c.part-words.result c.tag_of.result a n c.tag_of.ensures h)) c.have_tag.ensures.not
