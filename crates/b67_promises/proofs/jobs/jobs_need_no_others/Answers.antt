use Rattle.b67_promises.proofs.OwnSteps.{jobs_need_no_others}
use Rattle.b67_promises.proofs.jobs.jobs_need_no_others.Goals as goal

pub returns : goal.returns
returns c = jobs_need_no_others
