use Rattle.b67_mcp.specs.Woken.{woken_row}
use Rattle.b67_mcp.proofs.WokenRows.{Wakes}
use Rattle.b67_mcp.proofs.woken.wake_each.Given as goal

abbrev pub invariant-loop-at : goal.invariant-loop-at
invariant-loop-at l = Wakes (woken_row l.job l.mark l.offset) l.fn.rows l.rows l.at
