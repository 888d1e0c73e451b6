use Rattle.b67_law.proofs.Settles.{steps_keep_order}
use Rattle.b67_law.proofs.steps.steps_keep_order.Goals as goal

pub returns : goal.returns
returns c = steps_keep_order
