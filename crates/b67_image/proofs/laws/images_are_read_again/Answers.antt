use Rattle.b67_image.proofs.Meant.{spelled_again}
use Rattle.b67_image.proofs.laws.images_are_read_again.Goals as goal

pub returns : goal.returns
returns c = spelled_again
