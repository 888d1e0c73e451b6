use Rattle.std.proofs.Common.{◌<◌, length, refl, true, arith}
use Rattle.std.proofs.Math.ListN.{length-set}
use Rattle.b67_backing.proofs.Marks.{mark-true, mark-false, blanks-less, walking_next, walking_done, walking_met, walking_free}
use Rattle.b67_backing.proofs.chaining.mark_chain.Goals as goal

pub returns-then-next-eq0-clause-not : goal.returns-then-next-eq0-clause-not
returns-then-next-eq0-clause-not c = walking_free c.args.links.now c.args.first c.walk.at c.args.seen.now c.walk.seen c.walk.invariant c.if-next-eq0.true

pub returns-then-next-at-clause-done : goal.returns-then-next-at-clause-done
returns-then-next-at-clause-done c =
    let inside : c.walk.at < length c.walk.seen = omega (arith, c.walk.invariant.high, c.walk.invariant.many, c.requires.many) in
    walking_done c.args.links.now c.args.first c.walk.at c.args.seen.now c.walk.seen c.walk.invariant inside (mark-false c.walk.seen c.walk.at c.walk-test.true) c.if-next-at.true (length-set c.walk.seen c.walk.at true)

pub walk-smaller : goal.walk-smaller
walk-smaller c =
    let inside : c.walk.at < length c.walk.seen = omega (arith, c.walk.invariant.high, c.walk.invariant.many, c.requires.many) in
    blanks-less c.walk.seen c.walk.at inside c.walk-test.true

pub walk-preserved : goal.walk-preserved
walk-preserved c =
    let inside : c.walk.at < length c.walk.seen = omega (arith, c.walk.invariant.high, c.walk.invariant.many, c.requires.many) in
    walking_next c.args.links.now c.args.first c.walk.at _ c.args.seen.now c.walk.seen c.walk.invariant inside (mark-false c.walk.seen c.walk.at c.walk-test.true) refl c.if-next-eq0.false c.if-next-at.false (c.requires.inside _) (length-set c.walk.seen c.walk.at true)

pub returns-clause-not : goal.returns-clause-not
returns-clause-not c = walking_met c.args.links.now c.args.first c.walk.at c.args.seen.now c.walk.seen c.walk.invariant (mark-true c.walk.seen c.walk.at c.walk-test.false)
