use Rattle.b67_law.proofs.States.{runs_fault_exactly_at_nvld}
use Rattle.b67_law.proofs.whole_runs.runs_fault_exactly_at_nvld.Goals as goal

pub returns : goal.returns
returns c = runs_fault_exactly_at_nvld
