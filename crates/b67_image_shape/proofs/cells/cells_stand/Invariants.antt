use Rattle.std.proofs.Common.{◌≡◌, ◌≤◌}
use Rattle.b67_layout_shown.specs.Machines.{sight_of}
use Rattle.b67_task.specs.Tables.{task_row, job_row}
use Rattle.b67_image_shape.specs.CellWalk.{cells_stand}
use Rattle.b67_image_shape.proofs.cells.cells_stand.Given as goal

abbrev pub invariant-down : goal.invariant-down
invariant-down l =
    (l.left ≤ l.many)
    × (cells_stand (sight_of l.task.machine.now) l.task.records.now l.task.kinds.now (job_row l.task.job.now) (task_row l.task.row) l.high l.s l.from l.many ≡ cells_stand (sight_of l.task.machine.now) l.task.records.now l.task.kinds.now (job_row l.task.job.now) (task_row l.task.row) l.high l.s l.from l.left)

abbrev pub decreases-down : goal.decreases-down
decreases-down l = l.left
