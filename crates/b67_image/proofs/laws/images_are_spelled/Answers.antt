use Rattle.b67_image.proofs.Meant.{spelled_in}
use Rattle.b67_image.proofs.laws.images_are_spelled.Goals as goal

pub returns : goal.returns
returns c = spelled_in
