use Rattle.std.proofs.Common.{arith}
use Rattle.b67_mcp.specs.Woken.{woken_row}
use Rattle.b67_mcp.proofs.WokenRows.{wakes_none, wakes_more, wakes_all}
use Rattle.b67_mcp.proofs.woken.wake_each.Goals as goal

pub loop-at-init : goal.loop-at-init
loop-at-init c = wakes_none (woken_row c.args.job c.args.mark c.args.offset) c.args.rows.now

pub loop-at-preserved : goal.loop-at-preserved
loop-at-preserved c = wakes_more (woken_row c.args.job c.args.mark c.args.offset) c.args.rows.now c.loop-at.rows c.loop-at.at _ c.woken_row.result c.loop-at.invariant (omega (arith, c.loop-at-test.true)) c.woken_row.ensures

pub returns : goal.returns
returns c = wakes_all (woken_row c.args.job c.args.mark c.args.offset) c.args.rows.now c.loop-at.rows c.loop-at.at c.loop-at.invariant (omega (arith, c.loop-at-test.false))
