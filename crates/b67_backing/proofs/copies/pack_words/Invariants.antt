use Rattle.std.proofs.Common.{map}
use Rattle.b67_word.specs.Numbers.{number}
use Rattle.b67_backing.proofs.Packs.{Packs}
use Rattle.b67_backing.proofs.copies.pack_words.Given as goal

abbrev pub invariant-loop-i : goal.invariant-loop-i
invariant-loop-i l = Packs (map number l.from) l.start l.i l.buffer
