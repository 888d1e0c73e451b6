use Rattle.std.proofs.Common.{◌≡◌, ◌-◌, ◌<◌, ◌^◌}
use Rattle.b67_layout_shown.specs.Machines.{sight_of}
use Rattle.b67_task.specs.Tables.{task_row, job_row}
use Rattle.b67_image_shape.specs.CellWalk.{records_stand}
use Rattle.b67_image_shape.proofs.cells.records_stand.Given as goal

abbrev pub invariant-down : goal.invariant-down
invariant-down l =
    (l.f < 2 ^ 60)
    × ((l.s < 2 ^ 60)
    × (records_stand (sight_of l.task.machine.now) l.task.records.now l.task.kinds.now (job_row l.task.job.now) (task_row l.task.row) l.base l.turns l.mark l.high ≡ records_stand (sight_of l.task.machine.now) l.task.records.now l.task.kinds.now (job_row l.task.job.now) (task_row l.task.row) l.base (l.turns - l._turn) l.f l.s))
