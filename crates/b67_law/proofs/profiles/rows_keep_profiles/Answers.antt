use Rattle.b67_law.proofs.Lemmas.{rows_keep}
use Rattle.b67_law.proofs.profiles.rows_keep_profiles.Goals as goal

pub returns : goal.returns
returns c = rows_keep
