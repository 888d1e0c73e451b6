use Rattle.std.proofs.Common.{arith}
use Rattle.b67_surface.proofs.slice_rows.make_slices.Goals as goal

pub turns-preserved : goal.turns-preserved
turns-preserved g c = record {
  goes_on = c.slice.ensures.leaves.goes_on;
  sized = omega (arith, c.turns.invariant.sized, c.slice.ensures.leaves.served.size, c.slice.ensures.leaves.keeps.sectors);
}
