-- The run is computed.
use Rattle.std.proofs.Common.{refl}
use Rattle.b67_model.specs.Common.{step, stepped, step_of, next}
use Rattle.b67_law_examples.proofs.long.link_1025_loops.Goals as goal

pub returns : goal.returns
unfolding step stepped step_of next
returns c = refl
