use Rattle.b67_layout.proofs.Family.{storage, machine, plan, session, ordered, represented, runs_child}
use Rattle.b67_layout.proofs.families.children_can_run.Goals as goal

pub returns : goal.returns
returns c = (storage, machine, plan, session, ordered, represented, runs_child)
