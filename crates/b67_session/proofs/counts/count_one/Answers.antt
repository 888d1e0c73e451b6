use Rattle.std.proofs.Common.{◌-◌, refl, ap}
use Rattle.b67_task.specs.Tables.{given_of}
use Rattle.b67_task.proofs.Keeping.{rows_put, given_put}
use Rattle.b67_task.specs.Counted.{counted_row}
use Rattle.b67_session.proofs.counts.count_one.Goals as goal

pub returns : goal.returns
returns c = record {
  shows = c.count.ensures.moment;
  made = cc;
  rows = cc;
  running = cc;
  last_job = cc;
  last_number = cc;
  printed = cc;
  given = given_put c.args.tasks.now c.count.new.tasks (ap given_of c.count.ensures.rest)
      (rows_put c.args.tasks.now.jobs c.count.new.tasks.jobs (c.args.chosen.job - 1) c.requires.job (counted_row c.requires.job) c.requires.at (c.count.ensures.jobs c.requires.job c.requires.at) refl);
}
