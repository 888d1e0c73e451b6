use Rattle.std.proofs.Common.{ap, length, arith}
use Rattle.b67_surface.proofs.backing_rows.turns.Goals as goal

pub copied-requires-clause-size : goal.copied-requires-clause-size
copied-requires-clause-size g c = omega (arith, ap length c.device_of-backing.ensures, c.three-sectors.ensures.links)
