use Rattle.b67_gen.proofs.Drawing.{lengths_go_on}
use Rattle.b67_gen.proofs.stores.draw_lengths.Goals as goal

pub arrays-preserved : goal.arrays-preserved
arrays-preserved c = rw (c.in_ok-push.ensures.items, c.below.ensures.number, c.below.ensures.state) (lengths_go_on c.args.draws.now.state c.arrays.arrays.items c.args.size c.arrays.counter c.arrays.draws.state c.arrays-test.true c.arrays.invariant)
