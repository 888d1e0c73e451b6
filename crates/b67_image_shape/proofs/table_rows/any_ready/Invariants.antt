use Rattle.std.proofs.Common.{◌≡◌, length, map}
use Rattle.std.specs.List.{list_any}
use Rattle.b67_task.specs.Tables.{task_row}
use Rattle.b67_image_shape.specs.TableFacts.{rows_in}
use Rattle.b67_image_shape.specs.TableTests.{row_ready}
use Rattle.b67_image_shape.proofs.table_rows.any_ready.Given as goal

abbrev pub invariant-each : goal.invariant-each
invariant-each l = list_any row_ready (rows_in (map task_row l.rows) l.job) ≡ list_any row_ready (rows_in (map task_row l.left) l.job)

abbrev pub decreases-each : goal.decreases-each
decreases-each l = length l.left
