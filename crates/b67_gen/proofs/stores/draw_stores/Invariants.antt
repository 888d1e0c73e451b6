use Rattle.b67_gen.proofs.Drawing.{DrawsStores}
use Rattle.b67_gen.proofs.stores.draw_stores.Given as goal

abbrev pub invariant-stores : goal.invariant-stores
invariant-stores l = DrawsStores l.arrays l.fn.draws.state l.all.items l.count l.counter l.draws.state
