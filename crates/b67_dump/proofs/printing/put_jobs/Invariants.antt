use Rattle.std.proofs.Common.{map}
use Rattle.b67_task.specs.Tables.{job_row}
use Rattle.b67_layout_shown.specs.Machines.{sight_of}
use Rattle.b67_dump.proofs.Printed.{IsPutTo}
use Rattle.b67_dump.proofs.printing.put_jobs.Given as goal

abbrev pub invariant-jobs : goal.invariant-jobs
invariant-jobs g l = IsPutTo g.K.Sink.taken g.K.Sink.faults (sight_of l.machine) l.fn.sink l.sink (map job_row l.machine.tasks.jobs) l.at
