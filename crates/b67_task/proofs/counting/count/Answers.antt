use Rattle.std.proofs.Common.{◌+◌, ◌-◌, map, arith}
use Rattle.b67_layout.specs.Meets.{with_job}
use Rattle.b67_task.specs.Tables.{task_row}
use Rattle.b67_task.specs.Counted.{choice_of}
use Rattle.b67_task.proofs.Rising.{lent_left}
use Rattle.b67_task.proofs.Moments.{numbered_with_job, moment_shows}
use Rattle.b67_task.proofs.Counts.{count_shows, jobs_after}
use Rattle.b67_task.proofs.counting.count.Goals as goal

pub returns-clause-counted : goal.returns-clause-counted
returns-clause-counted c = count_shows c.args.tasks.now c.args.chosen c.requires c.as_mut_slice.result.now c.count_of_job.new.rows c.as_slice.result.now c.first_left-tasks.result c.as_mut_slice.ensures.value c.as_slice.ensures
    (c.count_of_job.ensures c.requires.job) c.count_of_job.auto.rows c.first_left-tasks.ensures.within c.first_left-tasks.ensures.past

pub returns-clause-moment : goal.returns-clause-moment
returns-clause-moment c = λ plan s m made numbered found more shows.
    let tasks = c.args.tasks.now in
    moment_shows plan s m made (choice_of c.args.chosen) (map task_row tasks.rows.items) _ _ found more
    (count_shows tasks c.args.chosen c.requires c.as_mut_slice.result.now c.count_of_job.new.rows c.as_slice.result.now c.first_left-tasks.result c.as_mut_slice.ensures.value c.as_slice.ensures (c.count_of_job.ensures c.requires.job)
    c.count_of_job.auto.rows c.first_left-tasks.ensures.within c.first_left-tasks.ensures.past plan (with_job s m made.progress.job) (numbered_with_job s m made.progress.job numbered) shows)

pub returns-clause-left : goal.returns-clause-left
returns-clause-left c = λ short rise left.
    let tasks = c.args.tasks.now in
    lent_left c.as_slice.result.now tasks.switches tasks.next_switch c.first_left-tasks.result (tasks.made + 1) c.as_slice.ensures c.first_left-tasks.ensures.left tasks.made short rise (omega arith) left

pub returns-clause-jobs : goal.returns-clause-jobs
returns-clause-jobs c = λ r at.
    jobs_after 1 c.args.tasks.now.jobs c.as_mut_slice.result.now c.count_of_job.new.rows (c.args.chosen.job - 1) r c.as_mut_slice.ensures.value (c.count_of_job.ensures r) c.count_of_job.auto.rows at
