use Rattle.std.proofs.Common.{arith}
use Rattle.b67_backing.proofs.file.FileBackingBacking.write.Goals as goal

pub returns-clause-calls : goal.returns-clause-calls
returns-clause-calls g c = record { later = c.counted.ensures.more; rose = omega (arith, c.counted.ensures.calls) }
