use Rattle.std.proofs.Common.{sym, arith}
use Rattle.b67_image_shape.proofs.ObjectTurns.{present_is, absent_is, length_is, address_is, chain_present, chain_absent, chain_read}
use Rattle.b67_image_shape.proofs.objects.chain_at.Goals as goal

pub get-requires : goal.get-requires
get-requires c =
    let p = present_is c.args.core.now c.args.at c.part.result c.get-w.result c.get-w.ensures c.part.ensures.value c.if-part-eq1.true in
    let h = c.requires.area p in
    let a = address_is c.args.core.now c.args.at c.part-address.result c.get-w.result c.get-w.ensures c.part-address.ensures.value in
    let n = length_is c.args.core.now c.args.at c.part-words.result c.get-w.result c.get-w.ensures c.part-words.ensures.value in
    omega (arith, h, a, n)

pub returns-then-part-eq1-clause-value : goal.returns-then-part-eq1-clause-value
returns-then-part-eq1-clause-value c =
    let p = present_is c.args.core.now c.args.at c.part.result c.get-w.result c.get-w.ensures c.part.ensures.value c.if-part-eq1.true in
    let a = address_is c.args.core.now c.args.at c.part-address.result c.get-w.result c.get-w.ensures c.part-address.ensures.value in
    let n = length_is c.args.core.now c.args.at c.part-words.result c.get-w.result c.get-w.ensures c.part-words.ensures.value in
    chain_present c.args.core.now c.args.at c.part-then-part-eq1.result p (chain_read c.args.core.now c.args.at c.part-address.result c.part-words.result c.part-then-part-eq1.result c.get.result a n c.get.ensures c.part-then-part-eq1.ensures.value)

pub returns-clause-value : goal.returns-clause-value
returns-clause-value c =
    chain_absent c.args.core.now c.args.at c.part-2.result (absent_is c.args.core.now c.args.at c.part.result c.get-w.result c.get-w.ensures c.part.ensures.value c.if-part-eq1.false)
    (sym (address_is c.args.core.now c.args.at c.part-2.result c.get-w.result c.get-w.ensures c.part-2.ensures.value))
