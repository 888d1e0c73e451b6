use Rattle.b67_task.specs.declared.tables.TaskRow.{TaskRow}
use Rattle.b67_layout_shown.proofs.Tops.{IsAhead}
use Rattle.b67_layout_shown.proofs.seeing.row_in_slot.Given as goal

abbrev pub invariant-each : goal.invariant-each
invariant-each l = IsAhead (λ (r : TaskRow). r.slot) l.rows l.slot l.row-index
