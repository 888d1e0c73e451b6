use Rattle.std.proofs.Common.{ℕ}
use Rattle.b67_refer.specs.RunningContext.{LiveContext}
use Rattle.b67_refer.specs.LiveCells.{IsMark}
use Rattle.b67_refer.proofs.Walks.{Spans}
use Rattle.b67_refer.proofs.cells.under_cell.Given as goal

abbrev pub invariant-loop-turn : goal.invariant-loop-turn
invariant-loop-turn l = (a : LiveContext l.core l.regs) → IsMark a l.over → (p : ℕ) × Spans l.core l.regs a l.past p
