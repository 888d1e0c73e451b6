-- The text is computed.
use Rattle.std.proofs.Common.{refl}
use Rattle.std.specs.Fmt.{digits}
use Rattle.b67_model.specs.Common.{step, stepped, step_of, next}
use Rattle.b67_law_examples.proofs.texts.text_of_a_sum.Goals as goal

pub returns : goal.returns
unfolding digits step stepped step_of next
returns c = refl
