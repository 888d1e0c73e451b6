use Rattle.std.proofs.Common.{◌≤◌, length, Ok}
use Rattle.b67_task.specs.Tables.{job_row}
use Rattle.b67_layout_shown.specs.Machines.{sight_of}
use Rattle.b67_dump.specs.Put.{PutsText}
use Rattle.b67_dump.specs.Walk.{marks_in}
use Rattle.b67_dump.proofs.Printed.{from_mark}
use Rattle.b67_dump.proofs.printing.put_records.Given as goal

abbrev pub invariant-records : goal.invariant-records
invariant-records g l =
    let marks = marks_in l.machine.cpu.core l.machine.cpu.regs.stack_size l.top.f in
    (l.left ≤ length marks) × PutsText g.K.Sink.taken g.K.Sink.faults l.fn.sink l.sink (Ok tt) (from_mark (sight_of l.machine) (job_row l.row) l.job l.top.s marks l.left)

abbrev pub decreases-records : goal.decreases-records
decreases-records g l = l.left
