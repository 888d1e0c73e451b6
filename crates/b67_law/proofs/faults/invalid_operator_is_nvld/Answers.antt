use Rattle.b67_law.proofs.FaultRows.{invalid_operator_is_nvld}
use Rattle.b67_law.proofs.faults.invalid_operator_is_nvld.Goals as goal

pub returns : goal.returns
returns c = invalid_operator_is_nvld
