use Rattle.std.proofs.Common.{◌≡◌, ◌++◌, drop, map}
use Rattle.std.specs.Prelude.{string_bytes}
use Rattle.b67_program.specs.Words.{texts_of}
use Rattle.b67_recorded.proofs.serving.noted.Given as goal

abbrev pub invariant-words : goal.invariant-words
invariant-words l = (texts_of l.all.items ++ map string_bytes (drop l.word-index l.words) ≡ map string_bytes l.words)
    × (l.into.texts ≡ l.fn.into.texts ++ texts_of l.all.items)
