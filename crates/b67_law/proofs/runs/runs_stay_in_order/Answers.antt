use Rattle.b67_law.proofs.RunSessions.{runs_stay_in_order}
use Rattle.b67_law.proofs.runs.runs_stay_in_order.Goals as goal

pub returns : goal.returns
returns c = runs_stay_in_order
