use Rattle.std.proofs.Common.{ap}
use Rattle.b67_layout_shown.specs.Shown.{number_by}
use Rattle.b67_dump.proofs.walking.number_in_slot.Goals as goal

pub returns-in-Some : goal.returns-in-Some
returns-in-Some c = ap number_by c.in-Some.ensures

pub returns-in-None : goal.returns-in-None
returns-in-None c = ap number_by c.in-None.ensures
