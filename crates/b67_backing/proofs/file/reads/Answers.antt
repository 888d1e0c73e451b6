use Rattle.b67_backing.proofs.Bytes.{told_of_some, becomes_of_some}
use Rattle.b67_backing.proofs.file.reads.Goals as goal

pub returns-in-Some-clause-gives : goal.returns-in-Some-clause-gives
returns-in-Some-clause-gives g c = told_of_some g.F.RandomAccess.bytes c.args.file.now c.in-Some.file c.read_sector.result c.is_ok.result c.in-Some.is c.is_ok.ensures.value c.read_sector.ensures.gives

pub returns-in-Some-clause-same : goal.returns-in-Some-clause-same
returns-in-Some-clause-same g c = becomes_of_some g.F.RandomAccess.bytes c.args.file.now c.in-Some.file c.read_sector.new.file c.in-Some.is c.read_sector.ensures.same
