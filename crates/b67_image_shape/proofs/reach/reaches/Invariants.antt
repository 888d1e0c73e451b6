use Rattle.std.proofs.Common.{◌≡◌, length, map}
use Rattle.std.specs.List.{list_all}
use Rattle.b67_layout_shown.specs.Machines.{sight_of}
use Rattle.b67_task.specs.Tables.{task_row}
use Rattle.b67_image_shape.specs.Reaching.{row_reaches}
use Rattle.b67_image_shape.proofs.reach.reaches.Given as goal

abbrev pub invariant-each : goal.invariant-each
invariant-each l = list_all (row_reaches (sight_of l.machine)) (map task_row l.machine.tasks.rows.items) ≡ list_all (row_reaches (sight_of l.machine)) (map task_row l.left)

abbrev pub decreases-each : goal.decreases-each
decreases-each l = length l.left
