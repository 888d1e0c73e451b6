use Rattle.std.proofs.Common.{arith}
use Rattle.b67_refer.proofs.Splits.{split}
use Rattle.b67_refer.proofs.couples.couple_at.Goals as goal

pub returns : goal.returns
returns c = split c.args.bits c.args.level c.requires.bits (omega (arith, c.requires.level))
