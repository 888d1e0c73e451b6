use Rattle.b67_gen.proofs.Drawing.{DrawsLengths}
use Rattle.b67_gen.proofs.stores.draw_lengths.Given as goal

abbrev pub invariant-arrays : goal.invariant-arrays
invariant-arrays l = DrawsLengths l.fn.draws.state l.arrays.items l.size l.counter l.draws.state
