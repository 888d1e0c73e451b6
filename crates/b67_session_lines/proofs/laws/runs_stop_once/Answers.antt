use Rattle.b67_session_lines.proofs.Statuses.{stops-once}
use Rattle.b67_session_lines.proofs.laws.runs_stop_once.Goals as goal

pub returns : goal.returns
returns c = stops-once
