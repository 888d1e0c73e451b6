use Rattle.std.proofs.Common.{◌≤◌, length, map, drop, Ok}
use Rattle.b67_task.specs.Tables.{task_row, job_row}
use Rattle.b67_layout_shown.specs.Machines.{sight_of}
use Rattle.b67_dump.specs.Put.{PutsText}
use Rattle.b67_dump.specs.Walk.{rows_dump}
use Rattle.b67_dump.proofs.printing.put_tasks.Given as goal

abbrev pub invariant-tasks : goal.invariant-tasks
invariant-tasks g l = (l.left ≤ length l.tasks) × PutsText g.K.Sink.taken g.K.Sink.faults l.fn.sink l.sink (Ok tt) (rows_dump (sight_of l.machine) (job_row l.row) l.job (drop l.left (map task_row l.tasks)))

abbrev pub decreases-tasks : goal.decreases-tasks
decreases-tasks g l = l.left
