use Rattle.b67_session.proofs.Openings.{stands_open}
use Rattle.b67_session.proofs.opening.machines_are_open.Goals as goal

pub returns : goal.returns
returns c = stands_open
