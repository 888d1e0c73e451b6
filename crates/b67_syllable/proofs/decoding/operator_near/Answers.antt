use Rattle.std.proofs.Common.{arith, refl}
use Rattle.b67_syllable.proofs.CodeLemmas.{begins, near_ends, near_past, near_count}
use Rattle.b67_syllable.proofs.decoding.operator_near.Goals as goal

pub operator_behind-requires-clause-within : goal.operator_behind-requires-clause-within
operator_behind-requires-clause-within c =
    let same = near_count c.args.at c.args.kind c.end_behind-end.result c.end_behind-end.ensures.value in
    omega (arith, c.if-count_of-code.true, c.count_of.ensures.value, same)

pub returns-then-count_of-code : goal.returns-then-count_of-code
returns-then-count_of-code c =
    near_ends c.args.code.now c.args.at c.args.kind (begins c.args.code.now c.args.at _ c.args.kind c.requires.in_word c.requires.word refl c.requires.begins) c.operator_behind.result c.end_behind-end.result c.operator_behind.ensures c.end_behind-end.ensures.value c.end_behind-end.ensures.small (omega (arith, c.if-count_of-code.true, c.count_of.ensures.value))

pub returns-else-count_of-code : goal.returns-else-count_of-code
returns-else-count_of-code c =
    near_past c.args.code.now c.args.at c.args.kind (begins c.args.code.now c.args.at _ c.args.kind c.requires.in_word c.requires.word refl c.requires.begins) c.end_behind-end.result c.end_behind-end.ensures.value (omega (arith, c.if-count_of-code.false, c.count_of.ensures.value))
