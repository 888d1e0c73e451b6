use Rattle.b67_law.proofs.Kept.{each_row_keeps_order}
use Rattle.b67_law.proofs.keeping.each_row_keeps_order.Goals as goal

pub returns : goal.returns
returns c = each_row_keeps_order
