use Rattle.std.proofs.Common.{arith}
use Rattle.b67_surface.proofs.slice_rows.two_slices.Goals as goal

pub slice-second-requires-clause-open : goal.slice-second-requires-clause-open
slice-second-requires-clause-open g c = c.slice-first.ensures.leaves.goes_on

pub slice-second-requires-clause-sized : goal.slice-second-requires-clause-sized
slice-second-requires-clause-sized g c = omega (arith, c.requires.sized, c.slice-first.ensures.leaves.served.size, c.slice-first.ensures.leaves.keeps.sectors)
