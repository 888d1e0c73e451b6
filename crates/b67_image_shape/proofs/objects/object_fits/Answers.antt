use Rattle.std.proofs.Common.{arith}
use Rattle.b67_image_shape.proofs.Deciding.{on_true, on_false}
use Rattle.b67_image_shape.proofs.ObjectTurns.{area_inside, length_is, chain_told, chain_of_told}
use Rattle.b67_image_shape.proofs.objects.object_fits.Goals as goal

pub chain_at-first-requires-clause-area : goal.chain_at-first-requires-clause-area
chain_at-first-requires-clause-area c = λ p. area_inside c.args.objects.now.core.now c.args.objects.now.low c.args.objects.now.kinds.now c.args.objects.now.housed.now c.requires.judged.walked c.args.at c.args.kind c.requires.marked p (c.if-not-is_held.ensures.yes p).area

pub returns-clause-yes : goal.returns-clause-yes
returns-clause-yes c =
    let n = length_is c.args.objects.now.core.now c.args.at c.part-words.result c.get.result c.get.ensures c.part-words.ensures.value in
    on_true c.has_chain.result
    (λ h. record {
      word = c.if-not-is_described.ensures.yes;
      some = omega (arith, n, c.if-words-eq0.false);
      few = omega (arith, n, c.longest.ensures, c.if-words-longest.false);
      present = c.if-not-is_held.ensures.yes;
      chain = chain_told c.args.objects.now.core.now c.args.objects.now.links.now c.args.at c.args.kind c.chain_at-first.result c.part-words.result c.chain_at-first.ensures.value n h;
    }) c.has_chain.ensures.yes

pub returns-clause-not : goal.returns-clause-not
returns-clause-not c =
    let n = length_is c.args.objects.now.core.now c.args.at c.part-words.result c.get.result c.get.ensures c.part-words.ensures.value in
    on_false c.has_chain.result (λ never f. never (chain_of_told c.args.objects.now.core.now c.args.objects.now.links.now c.args.at c.args.kind c.chain_at-first.result c.part-words.result c.chain_at-first.ensures.value n f.chain)) c.has_chain.ensures.not
