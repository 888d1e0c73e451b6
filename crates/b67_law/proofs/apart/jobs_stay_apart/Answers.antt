use Rattle.b67_law.proofs.ApartLemmas.{states_apart}
use Rattle.b67_law.proofs.apart.jobs_stay_apart.Goals as goal

pub returns : goal.returns
returns c = states_apart
