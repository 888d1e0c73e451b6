use Rattle.b67_law.proofs.ChaseLemmas.{chase_is_relation}
use Rattle.b67_law.proofs.chains.chase_follows_chains.Goals as goal

pub returns : goal.returns
returns c = chase_is_relation
