use Rattle.b67_presence.proofs.Again.{view_stands}
use Rattle.b67_presence.proofs.can_page.sessions_can_page.Goals as goal

pub returns : goal.returns
returns c = view_stands
