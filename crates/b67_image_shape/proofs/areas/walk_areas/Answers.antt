use Rattle.std.proofs.Common.{◌<◌, ◌-◌, length, arith}
use Rattle.b67_image_shape.proofs.AreaSteps.{walk_starts, walk_ends, no_end, none_fits}
use Rattle.b67_image_shape.proofs.Deciding.{on_true, on_false}
use Rattle.b67_image_shape.proofs.areas.walk_areas.Goals as goal

pub returns-then-not-are_zeros-clause-not : goal.returns-then-not-are_zeros-clause-not
returns-then-not-are_zeros-clause-not c = λ f. c.if-not-are_zeros.ensures.not f.directory.zeros

pub up-init : goal.up-init
up-init c = walk_starts c.args.core.now c.args.kinds.now c.args.low c.args.housed.now c.requires.low c.requires.inside c.requires.many c.requires.none

pub up-smaller : goal.up-smaller
up-smaller c =
    let higher = c.in-Some.ensures.higher in
    let h : length c.args.core.now - c.in-Some.n.at < length c.args.core.now - c.up.w.at = omega (arith, higher, c.up-test.true, c.size-size.ensures.value) in
    h

pub up-preserved : goal.up-preserved
up-preserved c = c.in-Some.ensures.some c.args.low c.up.invariant

pub returns-in-None-clause-not : goal.returns-in-None-clause-not
returns-in-None-clause-not c = none_fits c.args.core.now c.args.kinds.now c.args.low (c.in-None.ensures.none c.args.low c.up.invariant)

pub returns-clause-yes : goal.returns-clause-yes
returns-clause-yes c =
    let inside = c.up.invariant.inside in
    on_true c.is_link.result
    (walk_ends c.args.core.now c.args.kinds.now c.args.low c.up.w c.up.housed (omega (arith, c.size-size.ensures.value, c.size-size.ensures.small)) c.requires.low c.if-not-are_zeros.ensures.yes c.up.invariant
    (omega (arith, inside, c.up-test.false, c.size-size.ensures.value))) c.is_link.ensures.yes

pub returns-clause-not : goal.returns-clause-not
returns-clause-not c =
    let inside = c.up.invariant.inside in
    on_false c.is_link.result
    (λ never. none_fits c.args.core.now c.args.kinds.now c.args.low
    (no_end c.args.core.now c.args.kinds.now c.args.low c.up.w c.up.housed c.up.invariant (omega (arith, inside, c.up-test.false, c.size-size.ensures.value)) never)) c.is_link.ensures.not
