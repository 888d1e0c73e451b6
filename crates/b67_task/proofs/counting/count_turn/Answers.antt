use Rattle.std.proofs.Common.{◌-◌}
use Rattle.b67_task.proofs.Counts.{turn_shows, jobs_after}
use Rattle.b67_task.proofs.counting.count_turn.Goals as goal

pub returns-clause-shows : goal.returns-clause-shows
returns-clause-shows c = turn_shows c.args.tasks.now c.args.more c.requires c.as_mut_slice.result.now c.add_to_job.new.rows c.as_mut_slice.ensures.value (c.add_to_job.ensures c.requires.job) c.add_to_job.auto.rows

pub returns-clause-jobs : goal.returns-clause-jobs
returns-clause-jobs c = λ r at.
    jobs_after c.args.more c.args.tasks.now.jobs c.as_mut_slice.result.now c.add_to_job.new.rows (c.args.tasks.now.last_job - 1) r c.as_mut_slice.ensures.value (c.add_to_job.ensures r) c.add_to_job.auto.rows at
