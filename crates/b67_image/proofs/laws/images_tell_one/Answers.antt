use Rattle.b67_image.proofs.Codes as codes
use Rattle.b67_image.proofs.laws.images_tell_one.Goals as goal

pub returns : goal.returns
returns c = codes.images_tell_one
