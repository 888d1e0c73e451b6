use Rattle.b67_law.proofs.Limits.{last_parts_restore_order}
use Rattle.b67_law.proofs.turns.last_parts_restore_order.Goals as goal

pub returns : goal.returns
returns c = last_parts_restore_order
