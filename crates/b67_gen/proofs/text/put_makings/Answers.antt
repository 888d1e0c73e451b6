use Rattle.b67_gen.specs.Generated.{making}
use Rattle.b67_gen.proofs.Cards.{turn, all_put}
use Rattle.b67_gen.proofs.text.put_makings.Goals as goal

pub arrays-preserved : goal.arrays-preserved
arrays-preserved c = turn making c.args.arrays.now 0 c.arrays.words-index c.args.into.now c.arrays.into c.put_making.new.into c.arrays-test.true c.in_ok-put_making.ensures c.arrays.invariant

pub returns : goal.returns
returns c = all_put making c.args.arrays.now c.arrays.words-index c.args.into.now c.arrays.into c.arrays-test.false c.arrays.invariant
