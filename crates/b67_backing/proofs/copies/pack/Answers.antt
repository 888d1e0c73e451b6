use Rattle.std.proofs.Common.{map, arith}
use Rattle.std.proofs.lemmas.List.{length-map}
use Rattle.b67_word.specs.Numbers.{number}
use Rattle.b67_backing.proofs.Packs.{packs_all}
use Rattle.b67_backing.proofs.copies.pack.Goals as goal

pub returns : goal.returns
returns c =
    packs_all (map number c.args.from.now) c.args.start _ c.pack_words-2.result c.pack_words-2.ensures.put c.pack_words-2.ensures.zeros
    (λ k more h. omega (arith, length-map c.args.from.now number, c.saturating_sub.ensures, more, h))
