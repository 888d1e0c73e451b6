use Rattle.std.proofs.Common.{arith}
use Rattle.b67_session.proofs.Deadlocks.{stuck_more, stuck_all}
use Rattle.b67_session.proofs.left.add_stuck.Goals as goal

pub loop-at-preserved : goal.loop-at-preserved
loop-at-preserved c = record {
  all = stuck_more c.args.dead.now c.args.list.now.items c.loop-at.list.items c.add_one.new.list.items c.args.live.now c.loop-at.at _ c.loop-at-test.true c.loop-at.invariant.all c.add_one.ensures.all;
  few = omega (arith, c.loop-at.invariant.few, c.add_one.ensures.few);
}

pub returns : goal.returns
returns c = stuck_all c.args.dead.now c.args.list.now.items c.loop-at.list.items c.args.live.now c.loop-at.at c.loop-at-test.false c.loop-at.invariant.all
