use Rattle.b67_law.proofs.Opens.{opens_in_order}
use Rattle.b67_law.proofs.opening.opening_is_in_order.Goals as goal

pub returns : goal.returns
returns c = opens_in_order
