use Rattle.std.proofs.Common.{◌≡◌, None, refl, arith}
use Rattle.std.proofs.lemmas.Result.{err_from_is_err_and}
use Rattle.b67_model.specs.declared.limits.TheConstants.{MOST_MADE, MOST_JOBS, MOST_NUMBER}
use Rattle.b67_image.specs.Reading.{number_within, read_switch}
use Rattle.b67_image.proofs.Steps.{fails, then_fails, then_gives, then_none, within, below, above}
use Rattle.b67_image.proofs.tables.read_switch.Goals as goal
use Rattle.b67_image.proofs.tables.read_switch.Goals.{then-job-lt1-via-then-job-lt1, then-job-lt1-via-else-job-lt1+then-job-gt-MOST_JOBS, then-task-lt1-via-then-task-lt1, then-task-lt1-via-else-task-lt1+then-task-gt-MOST_NUMBER}

pub returns-in_err-count : goal.returns-in_err-count
unfolding read_switch
returns-in_err-count c = let p = err_from_is_err_and c.from_residual.result c.from_residual.ensures.1 in rw (p.1, p.2) (fails c.in_err-count.field-0.0 _ _ c.in_err-count.ensures)

pub returns-then-count-gt-MOST_MADE : goal.returns-then-count-gt-MOST_MADE
unfolding read_switch
returns-then-count-gt-MOST_MADE c = then_gives _ _ _ _ c.in_ok-count.ensures (then_none _ _ (above 0 MOST_MADE (c.in_ok-count.count, c.in_ok-count.rest.now) c.if-count-gt-MOST_MADE.true))

pub returns-in_err-job : goal.returns-in_err-job
unfolding read_switch
returns-in_err-job c = let p = err_from_is_err_and c.from_residual-in_err-job.result c.from_residual-in_err-job.ensures.1 in rw (p.1, p.2) (then_fails c.in_err-job.field-0.0 _ _ _ c.in_ok-count.ensures (then_fails c.in_err-job.field-0.0 _ _ _ (within 0 MOST_MADE (c.in_ok-count.count, c.in_ok-count.rest.now) (omega arith) c.if-count-gt-MOST_MADE.false) (fails c.in_err-job.field-0.0 _ _ c.in_err-job.ensures)))

pub returns-then-job-lt1 : goal.returns-then-job-lt1
unfolding read_switch
returns-then-job-lt1 c =
    let out : number_within 1 MOST_JOBS (c.in_ok-job.job, c.in_ok-job.rest.now) ≡ None = elim c.then-job-lt1.branch [ then-job-lt1-via-then-job-lt1 w ↦ below 1 MOST_JOBS (c.in_ok-job.job, c.in_ok-job.rest.now) w.if-job-lt1.true | then-job-lt1-via-else-job-lt1+then-job-gt-MOST_JOBS w ↦ above 1 MOST_JOBS (c.in_ok-job.job, c.in_ok-job.rest.now) w.if-job-gt-MOST_JOBS.true ] in
    then_gives _ _ _ _ c.in_ok-count.ensures (then_gives _ _ _ _ (within 0 MOST_MADE (c.in_ok-count.count, c.in_ok-count.rest.now) (omega arith) c.if-count-gt-MOST_MADE.false) (then_gives _ _ _ _ c.in_ok-job.ensures (then_none _ _ out)))

pub returns-in_err-task : goal.returns-in_err-task
unfolding read_switch
returns-in_err-task c = let p = err_from_is_err_and c.from_residual-in_err-task.result c.from_residual-in_err-task.ensures.1 in rw (p.1, p.2) (then_fails c.in_err-task.field-0.0 _ _ _ c.in_ok-count.ensures (then_fails c.in_err-task.field-0.0 _ _ _ (within 0 MOST_MADE (c.in_ok-count.count, c.in_ok-count.rest.now) (omega arith) c.if-count-gt-MOST_MADE.false) (then_fails c.in_err-task.field-0.0 _ _ _ c.in_ok-job.ensures (then_fails c.in_err-task.field-0.0 _ _ _ (within 1 MOST_JOBS (c.in_ok-job.job, c.in_ok-job.rest.now) c.if-job-lt1.false c.if-job-gt-MOST_JOBS.false) (fails c.in_err-task.field-0.0 _ _ c.in_err-task.ensures)))))

pub returns-then-task-lt1 : goal.returns-then-task-lt1
unfolding read_switch
returns-then-task-lt1 c =
    let out : number_within 1 MOST_NUMBER (c.in_ok-task.task, c.in_ok-task.rest.now) ≡ None = elim c.then-task-lt1.branch [ then-task-lt1-via-then-task-lt1 w ↦ below 1 MOST_NUMBER (c.in_ok-task.task, c.in_ok-task.rest.now) w.if-task-lt1.true | then-task-lt1-via-else-task-lt1+then-task-gt-MOST_NUMBER w ↦ above 1 MOST_NUMBER (c.in_ok-task.task, c.in_ok-task.rest.now) w.if-task-gt-MOST_NUMBER.true ] in
    then_gives _ _ _ _ c.in_ok-count.ensures (then_gives _ _ _ _ (within 0 MOST_MADE (c.in_ok-count.count, c.in_ok-count.rest.now) (omega arith) c.if-count-gt-MOST_MADE.false) (then_gives _ _ _ _ c.in_ok-job.ensures (then_gives _ _ _ _ (within 1 MOST_JOBS (c.in_ok-job.job, c.in_ok-job.rest.now) c.if-job-lt1.false c.if-job-gt-MOST_JOBS.false) (then_gives _ _ _ _ c.in_ok-task.ensures (then_none _ _ out)))))

pub returns : goal.returns
unfolding read_switch
returns c = then_gives _ _ _ _ c.in_ok-count.ensures (then_gives _ _ _ _ (within 0 MOST_MADE (c.in_ok-count.count, c.in_ok-count.rest.now) (omega arith) c.if-count-gt-MOST_MADE.false) (then_gives _ _ _ _ c.in_ok-job.ensures (then_gives _ _ _ _ (within 1 MOST_JOBS (c.in_ok-job.job, c.in_ok-job.rest.now) c.if-job-lt1.false c.if-job-gt-MOST_JOBS.false) (then_gives _ _ _ _ c.in_ok-task.ensures (then_gives _ _ _ _ (within 1 MOST_NUMBER (c.in_ok-task.task, c.in_ok-task.rest.now) c.if-task-lt1.false c.if-task-gt-MOST_NUMBER.false) (refl))))))
