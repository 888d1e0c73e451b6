use Rattle.std.proofs.Common.{◌≡◌, List, length, map, drop, Ok, Err, ◌∙◌, ap, arith}
use Rattle.std.proofs.lemmas.List.{length-map}
use Rattle.b67_task.specs.declared.tables.TaskRow.{TaskRow}
use Rattle.b67_task.specs.Tables.{task_row, job_row}
use Rattle.b67_layout_shown.specs.Machines.{sight_of}
use Rattle.b67_dump.specs.Walk.{rows_dump}
use Rattle.b67_dump.proofs.Putting.{puts_as, got_mapped, puts_passed}
use Rattle.b67_dump.proofs.Printed.{no_task, task_turn, task_stop}
use Rattle.b67_dump.proofs.printing.put_tasks.Goals as goal

pub tasks-init : goal.tasks-init
tasks-init g c =
    let long = length-map c.as_slice-tasks.result.now task_row in
    (omega arith, no_task g.K.Sink.taken g.K.Sink.faults (sight_of c.args.machine.now) (job_row c.args.row.now) c.args.job c.args.sink.now (map task_row c.as_slice-tasks.result.now) (length c.as_slice-tasks.result.now) (omega (arith, long)))

pub tasks-preserved : goal.tasks-preserved
tasks-preserved g c =
    let long = length-map c.as_slice-tasks.result.now task_row in (
      omega (arith, c.tasks.invariant.0),
      task_turn g.K.Sink.taken g.K.Sink.faults (sight_of c.args.machine.now) (job_row c.args.row.now) c.args.job c.args.sink.now c.tasks.sink c.put_task.new.sink (Ok tt) (map task_row c.as_slice-tasks.result.now) c.tasks.left (task_row c.row_at.result)
          c.tasks-test.true (omega (arith, c.tasks.invariant.0, long)) c.tasks.invariant.1 (got_mapped task_row c.as_slice-tasks.result.now _ c.row_at.result c.row_at.ensures) c.in_ok-put_task.ensures,
    )

pub returns-in_err-put_task : goal.returns-in_err-put_task
returns-in_err-put_task g c =
    let long = length-map c.as_slice-tasks.result.now task_row in
    let whole = ap (λ (l : List TaskRow). rows_dump (sight_of c.args.machine.now) (job_row c.args.row.now) c.args.job (map task_row l)) c.as_slice-tasks.ensures.value
    ∙ ap (rows_dump (sight_of c.args.machine.now) (job_row c.args.row.now) c.args.job) c.rows_of-chosen.ensures in
    puts_passed g.K.Sink.taken g.K.Sink.faults c.args.sink.now c.put_task.new.sink c.from_residual.result c.in_err-put_task.field-0.0 _ c.from_residual.ensures.0
    (puts_as g.K.Sink.taken g.K.Sink.faults c.args.sink.now c.put_task.new.sink (Err c.in_err-put_task.field-0.0) _ _ whole
    (task_stop g.K.Sink.taken g.K.Sink.faults (sight_of c.args.machine.now) (job_row c.args.row.now) c.args.job c.args.sink.now c.tasks.sink c.put_task.new.sink c.in_err-put_task.field-0.0 (map task_row c.as_slice-tasks.result.now) c.tasks.left (task_row c.row_at.result)
    c.tasks-test.true (omega (arith, c.tasks.invariant.0, long)) c.tasks.invariant.1 (got_mapped task_row c.as_slice-tasks.result.now _ c.row_at.result c.row_at.ensures) c.in_err-put_task.ensures))

pub returns : goal.returns
returns g c =
    let whole = ap (λ (l : List TaskRow). rows_dump (sight_of c.args.machine.now) (job_row c.args.row.now) c.args.job (map task_row l)) c.as_slice-tasks.ensures.value
    ∙ ap (rows_dump (sight_of c.args.machine.now) (job_row c.args.row.now) c.args.job) c.rows_of-chosen.ensures in
    let z : c.tasks.left ≡ 0 = omega (arith, c.tasks-test.false) in
    puts_as g.K.Sink.taken g.K.Sink.faults c.args.sink.now c.tasks.sink (Ok tt) _ _ (ap (λ n. rows_dump (sight_of c.args.machine.now) (job_row c.args.row.now) c.args.job (drop n (map task_row c.as_slice-tasks.result.now))) z ∙ whole)
    c.tasks.invariant.1
