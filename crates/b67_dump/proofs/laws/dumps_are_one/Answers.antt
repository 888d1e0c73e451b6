use Rattle.b67_dump.proofs.Shown.{dumps_one}
use Rattle.b67_dump.proofs.laws.dumps_are_one.Goals as goal

pub returns : goal.returns
returns c = dumps_one
