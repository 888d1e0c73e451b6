use Rattle.b67_law.proofs.Parts.{first_parts_keep_order}
use Rattle.b67_law.proofs.turns.first_parts_keep_order.Goals as goal

pub returns : goal.returns
returns c = first_parts_keep_order
