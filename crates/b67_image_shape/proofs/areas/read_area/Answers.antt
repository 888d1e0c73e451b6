use Rattle.std.proofs.Common.{arith}
use Rattle.b67_area.specs.Words.{head_word, tail_word}
use Rattle.b67_image_shape.proofs.AreaReads.{info_made, area_made, empty_area, long_area, other_head, other_tail, again_is}
use Rattle.b67_image_shape.proofs.areas.read_area.Goals as goal

pub returns-then-words-eq0-clause-none : goal.returns-then-words-eq0-clause-none
returns-then-words-eq0-clause-none c = empty_area c.args.core.now c.args.at c.get-head.result c.part-words.result c.get-head.ensures c.part-words.ensures.value c.if-words-eq0.true

pub returns-then-words-size-clause-none : goal.returns-then-words-size-clause-none
returns-then-words-size-clause-none c = long_area c.args.core.now c.args.at c.get-head.result c.part-words.result c.get-head.ensures c.part-words.ensures.value (omega (arith, c.if-words-size.true, c.size-size.ensures.value))

pub returns-then-not-is_word-clause-none : goal.returns-then-not-is_word-clause-none
returns-then-not-is_word-clause-none c =
    let e = info_made c.args.core.now c.args.at c.get-head.result c.get-tail.result c.kind_of-kind.result c.part.result c.part-words.result c.part-owner.result c.part-kept.result
    c.get-head.ensures c.get-tail.ensures c.kind_of-kind.ensures c.part.ensures.value c.part-words.ensures.value c.part-owner.ensures.value c.part-kept.ensures.value in
    other_head c.args.core.now c.args.at (record { kind = c.kind_of-kind.result; words = c.part-words.result; owner = c.part-owner.result; kept = c.part-kept.result }) c.get-head.result c.head-head_again.result c.tag.result c.bits.result e c.get-head.ensures c.head-head_again.ensures c.tag.ensures.value c.bits.ensures.value c.if-not-is_word.ensures.not

pub returns-then-not-is_word-2-clause-none : goal.returns-then-not-is_word-2-clause-none
returns-then-not-is_word-2-clause-none c =
    let e = info_made c.args.core.now c.args.at c.get-head.result c.get-tail.result c.kind_of-kind.result c.part.result c.part-words.result c.part-owner.result c.part-kept.result
    c.get-head.ensures c.get-tail.ensures c.kind_of-kind.ensures c.part.ensures.value c.part-words.ensures.value c.part-owner.ensures.value c.part-kept.ensures.value in
    other_tail c.args.core.now c.args.at (record { kind = c.kind_of-kind.result; words = c.part-words.result; owner = c.part-owner.result; kept = c.part-kept.result }) c.get-tail.result c.tail-tail_again.result c.tag-2.result c.bits-2.result e c.get-tail.ensures c.tail-tail_again.ensures c.tag-2.ensures.value c.bits-2.ensures.value c.if-not-is_word-2.ensures.not

pub returns-clause-some : goal.returns-clause-some
returns-clause-some c =
    let e = info_made c.args.core.now c.args.at c.get-head.result c.get-tail.result c.kind_of-kind.result c.part.result c.part-words.result c.part-owner.result c.part-kept.result
    c.get-head.ensures c.get-tail.ensures c.kind_of-kind.ensures c.part.ensures.value c.part-words.ensures.value c.part-owner.ensures.value c.part-kept.ensures.value in (
      area_made c.args.core.now c.args.at (record { kind = c.kind_of-kind.result; words = c.part-words.result; owner = c.part-owner.result; kept = c.part-kept.result }) c.get-head.result c.get-tail.result e c.get-head.ensures c.get-tail.ensures (omega (arith, c.if-words-eq0.false))
          c.part-words.ensures.small c.part-owner.ensures.small c.part-kept.ensures.small (omega (arith, c.if-words-size.false, c.size-size.ensures.value)) (omega (arith, c.size-size.ensures.value, c.size-size.ensures.small))
          (again_is c.get-head.result c.head-head_again.result (head_word (record { kind = c.kind_of-kind.result; words = c.part-words.result; owner = c.part-owner.result; kept = c.part-kept.result })) c.tag.result c.bits.result c.head-head_again.ensures c.tag.ensures.value c.bits.ensures.value c.if-not-is_word.ensures.yes)
          (again_is c.get-tail.result c.tail-tail_again.result (tail_word (record { kind = c.kind_of-kind.result; words = c.part-words.result; owner = c.part-owner.result; kept = c.part-kept.result })) c.tag-2.result c.bits-2.result c.tail-tail_again.ensures c.tag-2.ensures.value c.bits-2.ensures.value c.if-not-is_word-2.ensures.yes),
      e,
    )
