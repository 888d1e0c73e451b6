use Rattle.std.proofs.Common.{◌≡◌, length, arith, subst}
use Rattle.b67_image_shape.specs.ObjectMarks.{ObjectsClaim}
use Rattle.b67_image_shape.proofs.ObjectTurns.{claims_first}
use Rattle.b67_image_shape.proofs.objects.take_objects.Goals as goal

pub each-init : goal.each-init
each-init c = claims_first c.args.objects.now.core.now c.args.objects.now.low c.args.objects.now.kinds.now c.args.objects.now.links.now c.args.claimed.now c.requires.many c.requires.none

pub returns-then-not-take_at-clause-not : goal.returns-then-not-take_at-clause-not
returns-then-not-take_at-clause-not c = c.if-not-take_at.ensures.not c.each.invariant

pub each-preserved : goal.each-preserved
each-preserved c = c.if-not-take_at.ensures.yes c.each.invariant

pub returns-clause-yes : goal.returns-clause-yes
returns-clause-yes c =
    let e : c.each.at ≡ length c.args.objects.now.core.now = omega (arith, c.each.auto.at-end, c.each-test.false, c.size-at-end.ensures.value) in
    subst (λ n. ObjectsClaim c.args.objects.now.core.now c.args.objects.now.low c.args.objects.now.kinds.now c.args.objects.now.links.now n c.each.claimed) e c.each.invariant
