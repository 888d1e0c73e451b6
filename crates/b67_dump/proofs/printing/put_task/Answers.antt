use Rattle.std.proofs.Common.{sym}
use Rattle.b67_io.specs.Line.{ended}
use Rattle.b67_task.specs.Tables.{task_row, job_row}
use Rattle.b67_layout_shown.specs.Machines.{sight_of}
use Rattle.b67_dump.proofs.Putting.{puts_then, puts_stop, puts_as}
use Rattle.b67_dump.proofs.Printed.{task_is}
use Rattle.b67_dump.proofs.printing.put_task.Goals as goal

pub put_records-requires-clause-inside : goal.put_records-requires-clause-inside
put_records-requires-clause-inside g c = c.top_of-top.ensures.near.1

pub put_records-requires-clause-below : goal.put_records-requires-clause-below
put_records-requires-clause-below g c = c.top_of-top.ensures.near.0

pub returns-in-Ok : goal.returns-in-Ok
returns-in-Ok g c =
    puts_as g.K.Sink.taken g.K.Sink.faults c.args.sink.now c.put_records.new.sink c.put_records.result _ _ (sym (task_is (sight_of c.args.machine.now) (job_row c.args.row.now) c.args.job (task_row c.args.task) c.top_of-top.result.s c.top_of-top.result.f c.top_of-top.result.segment c.top_of-top.result.place c.task_line.result c.top_of-top.ensures.s c.top_of-top.ensures.f c.top_of-top.ensures.segment c.top_of-top.ensures.place c.task_line.ensures))
    (puts_then g.K.Sink.taken g.K.Sink.faults c.args.sink.now c.put.new.sink c.put_records.new.sink c.put_records.result (ended c.task_line.result) _ c.in-Ok.ensures c.put_records.ensures)

pub returns-in-Err : goal.returns-in-Err
returns-in-Err g c =
    puts_stop g.K.Sink.taken g.K.Sink.faults c.args.sink.now c.put.new.sink c.in-Err.failed (ended c.task_line.result) _ (_, task_is (sight_of c.args.machine.now) (job_row c.args.row.now) c.args.job (task_row c.args.task) c.top_of-top.result.s c.top_of-top.result.f c.top_of-top.result.segment c.top_of-top.result.place c.task_line.result c.top_of-top.ensures.s c.top_of-top.ensures.f c.top_of-top.ensures.segment c.top_of-top.ensures.place c.task_line.ensures) c.in-Err.ensures
