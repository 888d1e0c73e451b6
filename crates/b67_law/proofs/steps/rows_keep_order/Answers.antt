-- By the law of all rows, and the rules of admission.
use Rattle.b67_law.proofs.Places.{rows_keep_order}
use Rattle.b67_law.proofs.steps.rows_keep_order.Goals as goal

pub returns : goal.returns
returns c = rows_keep_order
