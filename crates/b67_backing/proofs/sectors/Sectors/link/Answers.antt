use Rattle.std.proofs.Common.{◌∙◌}
use Rattle.b67_backing.proofs.Linkings.{link_in_is}
use Rattle.b67_backing.proofs.sectors.Sectors.link.Goals as goal

pub returns-clause-chain : goal.returns-clause-chain
returns-clause-chain c = λ st s. c.link_marked.ensures ∙ link_in_is c.args.self.now st c.args.n s c.requires.low c.requires.high
