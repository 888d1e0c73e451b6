use Rattle.b67_gen.proofs.Drawing.{stores_go_on, stores_end}
use Rattle.b67_gen.proofs.stores.draw_stores.Goals as goal

pub stores-preserved : goal.stores-preserved
stores-preserved c = rw (c.in_ok-push.ensures.items, c.draw_store.ensures.store, c.draw_store.ensures.state) (stores_go_on c.args.arrays.now c.args.draws.now.state c.stores.all.items c.args.count c.stores.counter c.stores.draws.state c.stores-test.true c.stores.invariant)

pub returns : goal.returns
returns c = stores_end c.args.arrays.now c.args.draws.now.state c.stores.all.items c.args.count c.stores.counter c.stores.draws.state c.stores-test.false c.stores.invariant
