use Rattle.b67_asm.proofs.Program.{rest_is}
use Rattle.b67_asm.proofs.cards.rest_from.Goals as goal

pub returns-clause-rest : goal.returns-clause-rest
returns-clause-rest c = rest_is c.args.from c.args.lines.now
