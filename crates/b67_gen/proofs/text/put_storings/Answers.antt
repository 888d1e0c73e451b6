use Rattle.b67_gen.specs.Generated.{storing}
use Rattle.b67_gen.proofs.Cards.{turn, all_put}
use Rattle.b67_gen.proofs.text.put_storings.Goals as goal

pub stores-preserved : goal.stores-preserved
stores-preserved c = turn storing c.args.stores.now (record { array = 0; index = 0; value = 0 }) c.stores.store-index c.args.into.now c.stores.into c.put_storing.new.into c.stores-test.true c.in_ok-put_storing.ensures c.stores.invariant

pub returns : goal.returns
returns c = all_put storing c.args.stores.now c.stores.store-index c.args.into.now c.stores.into c.stores-test.false c.stores.invariant
