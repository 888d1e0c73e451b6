use Rattle.b67_law.proofs.Nvld.{invalid_operator_exactly_at_nvld}
use Rattle.b67_law.proofs.whole_runs.invalid_operator_exactly_at_nvld.Goals as goal

pub returns : goal.returns
returns c = invalid_operator_exactly_at_nvld
