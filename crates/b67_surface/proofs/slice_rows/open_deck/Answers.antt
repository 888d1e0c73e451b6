use Rattle.std.proofs.Common.{arith}
use Rattle.b67_surface.proofs.slice_rows.open_deck.Goals as goal

pub returns-in-Ok-clause-open : goal.returns-in-Ok-clause-open
returns-in-Ok-clause-open g c = c.in-Ok.ensures.open

pub returns-in-Ok-clause-sized : goal.returns-in-Ok-clause-sized
returns-in-Ok-clause-sized g c = omega (arith, c.in-Ok.ensures.opens.2.sized, c.open.ensures.device.size)
