use Rattle.std.proofs.Common.{arith}
use Rattle.b67_mcp.proofs.Counts.{rows_step, rows_past}
use Rattle.b67_mcp.proofs.process_started.rows_of.Goals as goal

pub loop-at-init : goal.loop-at-init
loop-at-init c = (omega arith, omega arith)

pub loop-at-preserved : goal.loop-at-preserved
loop-at-preserved c =
    let i = c.loop-at.invariant in
    rows_step c.args.rows.now c.loop-at.at c.args.job _ c.counted-live.result c.loop-at.live c.counted-live.ensures (omega (arith, c.loop-at-test.true)) i.0 i.1

pub returns : goal.returns
returns c =
    let i = c.loop-at.invariant in
    omega (arith, i.0, rows_past c.args.rows.now c.loop-at.at c.args.job (omega (arith, c.loop-at-test.false)))
