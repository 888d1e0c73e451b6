use Rattle.b67_law.proofs.GrownLemmas.{steps_grow}
use Rattle.b67_law.proofs.chains.identities_grow_by_steps.Goals as goal

pub returns : goal.returns
returns c = steps_grow
