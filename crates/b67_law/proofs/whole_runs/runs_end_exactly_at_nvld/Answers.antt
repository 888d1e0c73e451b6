use Rattle.b67_law.proofs.Ended.{runs_end_exactly_at_nvld}
use Rattle.b67_law.proofs.whole_runs.runs_end_exactly_at_nvld.Goals as goal

pub returns : goal.returns
returns c = runs_end_exactly_at_nvld
