use Rattle.std.proofs.Common.{arith}
use Rattle.b67_image_shape.proofs.AreaReads.{field_is, hole_made, after_hole, empty_hole, long_hole}
use Rattle.b67_image_shape.proofs.areas.past_hole.Goals as goal

pub returns-then-w-clause-none : goal.returns-then-w-clause-none
returns-then-w-clause-none c = after_hole c.args.core.now c.args.w c.if-w.true

pub returns-then-words-eq0-clause-none : goal.returns-then-words-eq0-clause-none
returns-then-words-eq0-clause-none c = empty_hole c.args.core.now c.args.w c.part-words.result (field_is c.args.core.now c.args.w.at c.get.result 20 26 c.part-words.result c.get.ensures c.part-words.ensures.value) c.if-words-eq0.true

pub returns-then-words-size-clause-none : goal.returns-then-words-size-clause-none
returns-then-words-size-clause-none c = long_hole c.args.core.now c.args.w c.part-words.result (field_is c.args.core.now c.args.w.at c.get.result 20 26 c.part-words.result c.get.ensures c.part-words.ensures.value) (omega (arith, c.if-words-size.true, c.size-size.ensures.value))

pub returns-then-not-is_link-clause-none : goal.returns-then-not-is_link-clause-none
returns-then-not-is_link-clause-none c = λ s. c.if-not-is_link.ensures.not s.link

pub returns-clause-some : goal.returns-clause-some
returns-clause-some c =
    hole_made c.args.core.now c.args.w c.part-words.result c.from.result c.from.ensures (field_is c.args.core.now c.args.w.at c.get.result 20 26 c.part-words.result c.get.ensures c.part-words.ensures.value) c.if-w.false c.if-words-eq0.false
    (omega (arith, c.if-words-size.false, c.size-size.ensures.value)) c.requires.inside c.if-not-is_link.ensures.yes
