use Rattle.b67_promises.proofs.OtherLines.{read_among}
use Rattle.b67_promises.proofs.halts.images_of_runs_are_read.Goals as goal

pub returns : goal.returns
returns c = read_among
