use Rattle.b67_image.proofs.Unseen.{parts_tell}
use Rattle.b67_image.proofs.laws.parts_tell_sessions.Goals as goal

pub returns : goal.returns
returns c = parts_tell
