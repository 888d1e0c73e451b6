use Rattle.std.proofs.Common.{sym, ◌∙◌, arith}
use Rattle.b67_image_shape.proofs.ObjectTurns.{area_inside, claims_plain, claims_more, claims_met, first_inside}
use Rattle.b67_image_shape.proofs.objects.take_object.Goals as goal

pub returns-then-not-object_fits-clause-not : goal.returns-then-not-object_fits-clause-not
returns-then-not-object_fits-clause-not c = λ m k. c.if-not-object_fits.ensures.not (k.objects c.args.at c.args.kind c.requires.marked)

pub chain_at-first-requires-clause-area : goal.chain_at-first-requires-clause-area
chain_at-first-requires-clause-area c = λ p. area_inside c.args.objects.now.core.now c.args.objects.now.low c.args.objects.now.kinds.now c.args.objects.now.housed.now c.requires.judged.walked c.args.at c.args.kind c.requires.marked p (c.if-not-object_fits.ensures.yes.present p).area

pub returns-then-first-eq0-clause-yes : goal.returns-then-first-eq0-clause-yes
returns-then-first-eq0-clause-yes c = λ m. claims_plain c.args.objects.now.core.now c.args.objects.now.low c.args.objects.now.kinds.now c.args.objects.now.links.now c.args.at c.args.claimed.now m c.args.kind c.requires.marked c.if-not-object_fits.ensures.yes (sym c.chain_at-first.ensures.value ∙ c.if-first-eq0.true)

pub bounds-claimed-first : goal.bounds-claimed-first
bounds-claimed-first c =
    let h = first_inside c.args.objects.now.core.now c.args.objects.now.low c.args.objects.now.links.now c.args.at c.args.kind c.chain_at-first.result c.chain_at-first.ensures.value c.if-first-eq0.false c.if-not-object_fits.ensures.yes in
    omega (arith, h, c.requires.many)

pub returns-then-claimed-first-clause-not : goal.returns-then-claimed-first-clause-not
returns-then-claimed-first-clause-not c = λ m k. claims_met c.args.objects.now.core.now c.args.objects.now.low c.args.objects.now.kinds.now c.args.objects.now.links.now c.args.at c.args.claimed.now m c.args.kind c.requires.marked c.chain_at-first.result c.chain_at-first.ensures.value c.if-first-eq0.false c.if-claimed-first.true k

pub returns-clause-yes : goal.returns-clause-yes
returns-clause-yes c = λ m.
    claims_more c.args.objects.now.core.now c.args.objects.now.low c.args.objects.now.kinds.now c.args.objects.now.links.now c.args.at c.args.claimed.now m c.args.kind c.requires.marked c.if-not-object_fits.ensures.yes c.chain_at-first.result c.chain_at-first.ensures.value c.if-first-eq0.false
    (first_inside c.args.objects.now.core.now c.args.objects.now.low c.args.objects.now.links.now c.args.at c.args.kind c.chain_at-first.result c.chain_at-first.ensures.value c.if-first-eq0.false c.if-not-object_fits.ensures.yes) c.if-claimed-first.false
