use Rattle.b67_session_lines.proofs.Statuses.{stops-with}
use Rattle.b67_session_lines.proofs.laws.runs_stop_with_their_status.Goals as goal

pub returns : goal.returns
returns c = stops-with
