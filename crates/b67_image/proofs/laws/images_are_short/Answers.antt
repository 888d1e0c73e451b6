use Rattle.b67_image.proofs.Sizes.{image_short}
use Rattle.b67_image.proofs.laws.images_are_short.Goals as goal

pub returns : goal.returns
returns c = image_short
