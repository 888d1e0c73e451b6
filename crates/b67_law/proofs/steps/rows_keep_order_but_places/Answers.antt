-- By the law of all rows.
use Rattle.b67_law.proofs.Segments.{rows_keep_order_but_places}
use Rattle.b67_law.proofs.steps.rows_keep_order_but_places.Goals as goal

pub returns : goal.returns
returns c = rows_keep_order_but_places
