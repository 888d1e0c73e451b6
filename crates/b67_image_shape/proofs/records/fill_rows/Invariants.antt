use Rattle.std.proofs.Common.{◌≡◌, length, map}
use Rattle.b67_layout_shown.specs.Machines.{sight_of}
use Rattle.b67_task.specs.Tables.{task_row}
use Rattle.b67_image_shape.specs.RecordTable.{records_of_rows}
use Rattle.b67_image_shape.proofs.records.fill_rows.Given as goal

abbrev pub invariant-each : goal.invariant-each
invariant-each l = records_of_rows (sight_of l.machine) (map task_row l.left) l.records ≡ records_of_rows (sight_of l.machine) (map task_row l.rows) l.fn.records

abbrev pub decreases-each : goal.decreases-each
decreases-each l = length l.left
