use Rattle.b67_dump.proofs.Shown.{dumps_shown}
use Rattle.b67_dump.proofs.laws.dumps_are_shown.Goals as goal

pub returns : goal.returns
returns c = dumps_shown
