use Rattle.std.proofs.Common.{◌≡◌, ◌-◌, arith, length}
use Rattle.b67_area.specs.Spans.{first_hole}
use Rattle.b67_area.proofs.Walks.{first}
use Rattle.b67_area.proofs.Raises.{low_inside, cleared, clear_other}
use Rattle.b67_area.proofs.directory.Areas.clear.Goals as goal

pub overflow_sub-size : goal.overflow_sub-size
overflow_sub-size c = omega (arith, low_inside c.args.core.now c.args.self.now.low c.requires.0 c.requires.1)

pub leave-requires-clause-link : goal.leave-requires-clause-link
leave-requires-clause-link c = grind (arith, first)

pub returns-clause-row : goal.returns-clause-row
returns-clause-row c = λ ss d.
    let f = first c.args.core.now c.args.self.now.low ss d in
    let e = c.leave.ensures.value 0 (first_hole c.args.self.now.low ss) f.0 f.1 in
    let n : c.size-size.result - c.args.self.now.low ≡ length c.args.core.now - c.args.self.now.low = omega arith in
    cleared c.args.core.now c.leave.new.core c.args.self.now.low (length c.args.core.now - c.args.self.now.low) (rw n at e) d.above (omega (arith, low_inside c.args.core.now c.args.self.now.low ss d)) d.small d.zeros

pub returns-clause-outside : goal.returns-clause-outside
returns-clause-outside c = grind (arith, first, clear_other, low_inside)
