use Rattle.b67_backing.proofs.Shelved.{shelf_links}
use Rattle.b67_backing.proofs.chaining.sectors_tell_chains.Goals as goal

pub returns : goal.returns
returns c = shelf_links
