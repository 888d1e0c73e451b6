use Rattle.b67_dump.proofs.Session.{walks_dumped}
use Rattle.b67_dump.proofs.laws.walks_are_dumps.Goals as goal

pub returns : goal.returns
returns c = walks_dumped
