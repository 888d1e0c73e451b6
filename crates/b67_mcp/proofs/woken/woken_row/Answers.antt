use Rattle.b67_mcp.proofs.WokenRows.{row_own, row_other}
use Rattle.b67_mcp.proofs.woken.woken_row.Goals as goal

pub returns-then-row-job : goal.returns-then-row-job
returns-then-row-job c = row_other c.args.job c.args.mark c.args.offset c.args.row c.if-row-job.true

pub returns : goal.returns
returns c = row_own c.args.job c.args.mark c.args.offset c.args.row c.woken_state-after.result c.if-row-job.false c.woken_state-after.ensures
