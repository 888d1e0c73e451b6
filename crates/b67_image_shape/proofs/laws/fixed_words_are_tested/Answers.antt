use Rattle.b67_image_shape.proofs.Fixed.{fixed_decided}
use Rattle.b67_image_shape.proofs.laws.fixed_words_are_tested.Goals as goal

pub returns : goal.returns
returns c = fixed_decided
