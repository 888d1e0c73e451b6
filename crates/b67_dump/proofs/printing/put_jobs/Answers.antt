use Rattle.std.proofs.Common.{◌≡◌, List, length, Some, map, ap, subst, arith}
use Rattle.std.proofs.lemmas.List.{length-map}
use Rattle.std.specs.Prelude.{slice_get}
use Rattle.b67_task.specs.declared.tables.JobRow.{JobRow}
use Rattle.b67_task.specs.Tables.{job_row}
use Rattle.b67_layout_shown.specs.Machines.{sight_of}
use Rattle.b67_dump.specs.Walk.{walk_text}
use Rattle.b67_dump.proofs.Putting.{got_mapped, puts_passed}
use Rattle.b67_dump.proofs.Printed.{no_job, job_turn, job_stop, all_jobs}
use Rattle.b67_dump.proofs.printing.put_jobs.Goals as goal

pub jobs-init : goal.jobs-init
jobs-init g c = no_job g.K.Sink.taken g.K.Sink.faults (sight_of c.args.machine.now) c.args.sink.now (map job_row c.args.machine.now.tasks.jobs)

pub jobs-preserved : goal.jobs-preserved
jobs-preserved g c =
    let same = ap (λ (l : List JobRow). length l) c.as_slice-jobs.ensures in
    let long = length-map c.args.machine.now.tasks.jobs job_row in
    job_turn g.K.Sink.taken g.K.Sink.faults (sight_of c.args.machine.now) c.args.sink.now c.jobs.sink c.put_tasks.new.sink (map job_row c.args.machine.now.tasks.jobs) c.jobs.at (job_row c.job_at.result.now) (omega (arith, same, long, c.jobs-test.true)) c.jobs.invariant
    (got_mapped job_row c.args.machine.now.tasks.jobs c.jobs.at c.job_at.result.now (subst (λ (l : List JobRow). slice_get l c.jobs.at ≡ Some c.job_at.result.now) c.as_slice-jobs.ensures c.job_at.ensures)) c.in_ok-put_tasks.ensures

pub returns-in_err-put_tasks : goal.returns-in_err-put_tasks
unfolding walk_text
returns-in_err-put_tasks g c =
    let same = ap (λ (l : List JobRow). length l) c.as_slice-jobs.ensures in
    let long = length-map c.args.machine.now.tasks.jobs job_row in
    puts_passed g.K.Sink.taken g.K.Sink.faults c.args.sink.now c.put_tasks.new.sink c.from_residual.result c.in_err-put_tasks.field-0.0 _ c.from_residual.ensures.0
    (job_stop g.K.Sink.taken g.K.Sink.faults (sight_of c.args.machine.now) c.args.sink.now c.jobs.sink c.put_tasks.new.sink c.in_err-put_tasks.field-0.0 (map job_row c.args.machine.now.tasks.jobs) c.jobs.at (job_row c.job_at.result.now) (omega (arith, same, long, c.jobs-test.true)) c.jobs.invariant
    (got_mapped job_row c.args.machine.now.tasks.jobs c.jobs.at c.job_at.result.now (subst (λ (l : List JobRow). slice_get l c.jobs.at ≡ Some c.job_at.result.now) c.as_slice-jobs.ensures c.job_at.ensures)) c.in_err-put_tasks.ensures)

pub returns : goal.returns
unfolding walk_text
returns g c =
    let same = ap (λ (l : List JobRow). length l) c.as_slice-jobs.ensures in
    let long = length-map c.args.machine.now.tasks.jobs job_row in
    all_jobs g.K.Sink.taken g.K.Sink.faults (sight_of c.args.machine.now) c.args.sink.now c.jobs.sink (map job_row c.args.machine.now.tasks.jobs) c.jobs.at (omega (arith, same, long, c.jobs-test.false)) c.jobs.invariant
