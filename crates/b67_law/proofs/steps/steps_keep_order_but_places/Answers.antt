use Rattle.b67_law.proofs.Settles.{steps_keep_order_but_places}
use Rattle.b67_law.proofs.steps.steps_keep_order_but_places.Goals as goal

pub returns : goal.returns
returns c = steps_keep_order_but_places
