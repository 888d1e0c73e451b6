use Rattle.std.proofs.Common.{◌+◌, map, ◌∙◌, arith, ap}
use Rattle.b67_word.specs.Numbers.{number}
use Rattle.b67_backing.proofs.Fills.{number_at-index}
use Rattle.b67_backing.proofs.Packs.{packs_none, packs_more}
use Rattle.b67_backing.proofs.copies.pack_words.Goals as goal

pub loop-i-init : goal.loop-i-init
loop-i-init c = packs_none (map number c.args.from.now) c.args.start

pub loop-i-preserved : goal.loop-i-preserved
loop-i-preserved c =
    packs_more (map number c.args.from.now) c.args.start c.loop-i.i c.to_number.result c.loop-i.buffer c.loop-i.invariant (omega arith)
    (c.to_number.ensures ∙ ap number c.index-from-start.is ∙ number_at-index c.args.from.now (c.args.start + c.loop-i.i) _ (omega arith))

pub returns-clause-put : goal.returns-clause-put
returns-clause-put c = λ k h. c.loop-i.invariant.put k (omega (arith, h))

pub returns-clause-zeros : goal.returns-clause-zeros
returns-clause-zeros c = λ k more h. c.loop-i.invariant.blank k (omega (arith, more)) h
