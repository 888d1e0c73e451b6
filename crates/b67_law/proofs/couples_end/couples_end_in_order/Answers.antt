use Rattle.b67_law.proofs.Couples.{couples_end_in_order}
use Rattle.b67_law.proofs.couples_end.couples_end_in_order.Goals as goal

pub returns : goal.returns
returns c = couples_end_in_order
