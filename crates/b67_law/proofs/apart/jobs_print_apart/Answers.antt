use Rattle.b67_law.proofs.ApartLemmas.{jobs_apart}
use Rattle.b67_law.proofs.apart.jobs_print_apart.Goals as goal

pub returns : goal.returns
returns c = jobs_apart
