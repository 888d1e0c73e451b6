use Rattle.b67_layout_shown.proofs.ButNames.{machines_but_names}
use Rattle.b67_layout_shown.proofs.laws.machines_show_their_sessions.Goals as goal

pub returns : goal.returns
returns c = machines_but_names
