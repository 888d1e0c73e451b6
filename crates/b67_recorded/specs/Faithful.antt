-- What was noted in a call went through the writer and the reader behind it, where these tell what they have.
use Rattle.std.specs.Prelude.{◌≡◌, ℕ, List, ◌++◌, Option, Some, true, false}
use Rattle.std.specs.Io.KnownBytes.{Consumes, IsAtEnd}
use Rattle.std.specs.declared.io.Write.{Ghosts}
use Rattle.b67_recorded.specs.Telling.{AllTell}
use Rattle.b67_recorded.specs.declared.sink.RecordedSink.{RecordedSink}
use Rattle.b67_recorded.specs.declared.source.RecordedSource.{RecordedSource}

-- The writer holds what it held before, and behind that the bytes that were noted.
pub record TookNoted {W : Type 0} {w : Ghosts W} (old new : RecordedSink W w) : Type 0 where
  pub told : AllTell w.contents → (before out : List ℕ) → w.contents old.inner ≡ Some before → new.noted.bytes ≡ old.noted.bytes ++ out → w.contents new.inner ≡ Some (before ++ out)

-- The bytes that were noted are those that the reader had next. If it is noted that no more come, it has none left.
pub record GaveNoted {R : Type 0} (remaining : R → Option (List ℕ)) (old new : RecordedSource R) : Type 0 where
  pub told : (bytes : List ℕ) → new.given.bytes ≡ old.given.bytes ++ bytes → Consumes (remaining old.inner) (remaining new.inner) bytes
  pub ended : old.ended ≡ false → new.ended ≡ true → IsAtEnd (remaining new.inner)

-- both
pub record IsFaithful {R W : Type 0} {w : Ghosts W} (remaining : R → Option (List ℕ)) (input input' : RecordedSource R) (old new : RecordedSink W w) : Type 0 where
  pub read : GaveNoted remaining input input'
  pub printed : TookNoted old new
