use Rattle.b67_session_lines.proofs.Joins.{steps-have-parts}
use Rattle.b67_session_lines.proofs.laws.steps_have_parts.Goals as goal

pub returns : goal.returns
returns c = steps-have-parts
