use Rattle.b67_image.proofs.Whole.{session_again}
use Rattle.b67_image.proofs.laws.images_of_sessions_are_read.Goals as goal

pub returns : goal.returns
returns c = session_again
