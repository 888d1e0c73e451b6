use Rattle.b67_backing.proofs.Bytes.{changes_of_some, if_done}
use Rattle.b67_backing.proofs.file.writes.Goals as goal

pub returns-in-Some-clause-sets : goal.returns-in-Some-clause-sets
returns-in-Some-clause-sets g c = if_done c.write_sector.result c.is_ok.result c.is_ok.ensures.value c.write_sector.ensures.sets (changes_of_some g.F.RandomAccess.bytes c.args.file.now c.in-Some.file c.write_sector.new.file c.in-Some.is)

pub returns-in-Some-clause-others : goal.returns-in-Some-clause-others
returns-in-Some-clause-others g c = changes_of_some g.F.RandomAccess.bytes c.args.file.now c.in-Some.file c.write_sector.new.file c.in-Some.is c.write_sector.ensures.others
