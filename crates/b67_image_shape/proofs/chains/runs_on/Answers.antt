use Rattle.std.proofs.Common.{arith}
use Rattle.b67_image_shape.proofs.ChainTests.{run_starts, run_ends, run_stops, run_on, run_done}
use Rattle.b67_image_shape.proofs.chains.runs_on.Goals as goal

pub walk-init : goal.walk-init
walk-init c = run_starts c.args.links.now c.args.first c.args.behind c.requires.low c.requires.high

pub returns-then-next-at : goal.returns-then-next-at
returns-then-next-at c = run_ends c.args.links.now c.args.first c.args.behind c.walk._i c.walk.at c.walk.invariant c.walk-test.true c.if-next-at.true

pub returns-then-next-eq0 : goal.returns-then-next-eq0
returns-then-next-eq0 c = run_stops c.args.links.now c.args.first c.args.behind c.walk._i c.walk.at c.walk.invariant c.walk-test.true c.if-next-at.false c.if-next-eq0.true

pub walk-preserved : goal.walk-preserved
walk-preserved c = run_on c.args.links.now c.args.first c.args.behind c.walk._i c.walk.at c.requires.inside c.walk.invariant c.walk-test.true c.if-next-at.false c.if-next-eq0.false

pub returns : goal.returns
returns c = run_done c.args.links.now c.args.first c.args.behind c.walk._i c.walk.at c.walk.invariant (omega (arith, c.walk-test.false))
