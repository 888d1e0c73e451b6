use Rattle.std.proofs.Common.{◌≡◌, length, map}
use Rattle.std.specs.List.{list_all}
use Rattle.b67_task.specs.Tables.{task_row}
use Rattle.b67_image_shape.specs.TableTests.{are_apart}
use Rattle.b67_image_shape.proofs.table_rows.is_apart.Given as goal

abbrev pub invariant-each : goal.invariant-each
invariant-each l = list_all (are_apart (task_row l.a)) (map task_row l.more) ≡ list_all (are_apart (task_row l.a)) (map task_row l.left)

abbrev pub decreases-each : goal.decreases-each
decreases-each l = length l.left
