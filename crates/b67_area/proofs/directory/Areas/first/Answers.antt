use Rattle.b67_area.proofs.Keeps.{all_above}
use Rattle.b67_area.proofs.directory.Areas.first.Goals as goal

pub next_area-requires : goal.next_area-requires
next_area-requires c = let (ss, d) = c.requires in (152, 0, ss, all_above c.args.core.now c.args.self.now.low ss d)

pub returns : goal.returns
returns c = λ ss d. c.next_area.ensures 152 0 ss (all_above c.args.core.now c.args.self.now.low ss d)
