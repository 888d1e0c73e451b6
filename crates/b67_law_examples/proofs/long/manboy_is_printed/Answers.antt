-- The run is computed.
use Rattle.std.proofs.Common.{refl}
use Rattle.b67_model.specs.Common.{step, stepped, step_of, next}
use Rattle.b67_law_examples.proofs.long.manboy_is_printed.Goals as goal

pub returns : goal.returns
unfolding step stepped step_of next
returns c = refl
