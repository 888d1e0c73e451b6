use Rattle.b67_gen.specs.Generated.{adding}
use Rattle.b67_gen.proofs.Cards.{turn, all_put}
use Rattle.b67_gen.proofs.text.put_addings.Goals as goal

pub stores-preserved : goal.stores-preserved
stores-preserved c = turn adding c.args.stores.now (record { array = 0; index = 0; value = 0 }) c.stores.store-index c.args.into.now c.stores.into c.put_adding.new.into c.stores-test.true c.in_ok-put_adding.ensures c.stores.invariant

pub returns : goal.returns
returns c = all_put adding c.args.stores.now c.stores.store-index c.args.into.now c.stores.into c.stores-test.false c.stores.invariant
