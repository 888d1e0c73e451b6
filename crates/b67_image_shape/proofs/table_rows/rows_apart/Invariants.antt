use Rattle.std.proofs.Common.{◌≡◌, length, map}
use Rattle.b67_task.specs.Tables.{task_row}
use Rattle.b67_image_shape.specs.TableTests.{rows_apart}
use Rattle.b67_image_shape.proofs.table_rows.rows_apart.Given as goal

abbrev pub invariant-each : goal.invariant-each
invariant-each l = rows_apart (map task_row l.rows) ≡ rows_apart (map task_row l.left)

abbrev pub decreases-each : goal.decreases-each
decreases-each l = length l.left
