use Rattle.std.proofs.Common.{ℕ}
use Rattle.b67_word.specs.declared.couples.Place.{Place}
use Rattle.b67_model.specs.Words.{Operand}
use Rattle.b67_refer.specs.RunningContext.{RunningContext}
use Rattle.b67_refer.specs.Cells.{IsCellAt}
use Rattle.b67_mcp.proofs.Scans.{Over}
use Rattle.b67_mcp.proofs.cell_given.mark_under.Given as goal

abbrev pub invariant-down : goal.invariant-down
invariant-down l = (a : RunningContext l.core l.regs) (q : Place) (f offset bits : ℕ) (p : IsCellAt a q l.cell f offset (Operand bits)) → Over l.core l.regs a q l.cell f offset bits p l.at

abbrev pub decreases-down : goal.decreases-down
decreases-down l = l.at
