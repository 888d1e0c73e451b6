use Rattle.b67_layout_step.proofs.Laws.{touches_arrays}
use Rattle.b67_layout_step.proofs.steps_touch_arrays.Goals as goal

pub returns : goal.returns
returns c = touches_arrays
