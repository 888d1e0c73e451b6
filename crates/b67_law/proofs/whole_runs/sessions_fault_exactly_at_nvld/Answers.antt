use Rattle.b67_law.proofs.States.{sessions_fault_exactly_at_nvld}
use Rattle.b67_law.proofs.whole_runs.sessions_fault_exactly_at_nvld.Goals as goal

pub returns : goal.returns
returns c = sessions_fault_exactly_at_nvld
