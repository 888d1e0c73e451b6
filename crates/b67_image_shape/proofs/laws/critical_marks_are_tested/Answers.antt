use Rattle.b67_image_shape.proofs.Fixed.{critical_decided}
use Rattle.b67_image_shape.proofs.laws.critical_marks_are_tested.Goals as goal

pub returns : goal.returns
returns c = critical_decided
