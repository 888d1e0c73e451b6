use Rattle.std.proofs.Common.{◌≡◌, ◌+◌, ◌*◌, ◌++◌, length}
use Rattle.std.specs.List.{AllByRecursion}
use Rattle.b67_word.specs.Tagged.{contents}
use Rattle.b67_codefile.specs.Spelling.{HasTag}
use Rattle.b67_model_text.specs.Encoding.{packed_words}
use Rattle.b67_asm.proofs.lay.pack.Given as goal

abbrev pub invariant-loop-rest : goal.invariant-loop-rest
invariant-loop-rest l = (contents l.words ++ packed_words l.rest ≡ packed_words l.syllables) × AllByRecursion (HasTag 3) l.words × (6 * length l.words + length l.rest ≡ length l.syllables)

abbrev pub decreases-loop-rest : goal.decreases-loop-rest
decreases-loop-rest l = length l.rest
