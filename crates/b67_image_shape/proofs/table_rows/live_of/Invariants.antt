use Rattle.std.proofs.Common.{◌≡◌, ◌+◌, ◌≤◌, length, map}
use Rattle.b67_task.specs.Tables.{task_row}
use Rattle.b67_image_shape.specs.TableFacts.{rows_in}
use Rattle.b67_image_shape.proofs.table_rows.live_of.Given as goal

abbrev pub invariant-each : goal.invariant-each
invariant-each l = (l.live + length (rows_in (map task_row l.left) l.job) ≡ length (rows_in (map task_row l.rows) l.job)) × (l.live + length l.left ≤ 120)

abbrev pub decreases-each : goal.decreases-each
decreases-each l = length l.left
