use Rattle.b67_backing.proofs.Bytes.{opened_tells}
use Rattle.b67_backing.proofs.file.FileBacking.at.Goals as goal

pub returns-clause-told : goal.returns-clause-told
returns-clause-told g c = rw c.ok.ensures.value (opened_tells g.F.RandomAccess.bytes c.open_sectors.result c.open_sectors.ensures.full)
