use Rattle.b67_layout_step.proofs.Laws.{keeps_arrays}
use Rattle.b67_layout_step.proofs.rows_keep_arrays.Goals as goal

pub returns : goal.returns
returns c = keeps_arrays
