use Rattle.b67_area.proofs.Keeps.{area_here}
use Rattle.b67_area.proofs.directory.Areas.info.Goals as goal

pub overflow_sub-address : goal.overflow_sub-address
overflow_sub-address c = let (ss, a, d, e) = c.requires in (area_here c.args.core.now c.args.self.now.low ss c.args.address a d e).0

pub info_at-requires : goal.info_at-requires
info_at-requires c = let (ss, a, d, e) = c.requires in (a, (area_here c.args.core.now c.args.self.now.low ss c.args.address a d e).1)

pub returns : goal.returns
returns c = λ ss a d e. c.info_at.ensures a (area_here c.args.core.now c.args.self.now.low ss c.args.address a d e).1
