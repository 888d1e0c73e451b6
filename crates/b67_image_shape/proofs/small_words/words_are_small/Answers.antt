use Rattle.std.proofs.Common.{rules, arith}
use Rattle.b67_image_shape.proofs.SmallWords.{small_next, all_small}
use Rattle.b67_image_shape.proofs.small_words.words_are_small.Goals as goal

pub each-init : goal.each-init
each-init c = λ n w lt e. absurd (omega (arith, lt))

pub each-preserved : goal.each-preserved
each-preserved c = small_next c.args.core.now c.each.at c.get-w.result c.each.invariant c.get-w.ensures (search rules)

pub returns : goal.returns
returns c = all_small c.args.core.now c.each.at c.each.invariant (omega (arith, c.each-test.false, c.size-at-end.ensures.value))
