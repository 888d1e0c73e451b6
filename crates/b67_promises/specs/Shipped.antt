-- What the program that people run prints and answers, by what its input gave.
use Rattle.std.specs.Prelude.{◌≡◌, ◌≤◌, ◌+◌, ◌⊎◌, ℕ, List, [], ◌∷◌, ◌++◌, length, Bool, true, None}
use Rattle.std.specs.declared.io.Write as write
use Rattle.b67_model_text.specs.Deck.{limit}
use Rattle.b67_backing.specs.declared.device.Backing.{Ghosts}
use Rattle.b67_recorded.specs.declared.process.RecordedProcess.{RecordedProcess}
use Rattle.b67_recorded.specs.declared.sink.RecordedSink.{RecordedSink}
use Rattle.b67_recorded.specs.declared.source.RecordedSource.{RecordedSource}
use Rattle.b67_promises.specs.Described.{IsAnsweredSo}
use Rattle.b67_promises.specs.Paging.{IsWhole, IsCutFrom}

-- each file that is handed out has so many sectors
abbrev pub FilesHave : {D F : Type 0} {g : Ghosts F} → RecordedProcess D F g → ℕ → Type 0
FilesHave {F = F} {g = g} process n = (file : F) → g.size file ≡ n

-- a text is all that came up to its end, or one byte more than a deck may have
pub record IsWholeText (text : List ℕ) (ended : Bool) : Type 0 where
  pub few : length text ≤ limit + 1
  pub all : length text ≤ limit → ended ≡ true

-- a read failed, or memory was refused, or the printer failed in the line that says so
abbrev pub IsStoppedEarly : ℕ → Type 0
IsStoppedEarly status = (status ≡ 7) ⊎ ((status ≡ 8) ⊎ (status ≡ 9))

-- The reader gave this text, and the writer took these bytes. They and the status are what the machine of the model gives for the text in a
-- core of so many words over so many sectors. The text was read to its end, and then the file of the path was opened and no other; or the call stopped
-- before, and no file was opened.
pub record PrintsAsDescribed {D F R W : Type 0} {g : Ghosts F} {w : write.Ghosts W} (core sectors : ℕ) (path : List ℕ) (process process' : RecordedProcess D F g)
    (input input' : RecordedSource R) (old new : RecordedSink W w) (status : ℕ) : Type 0 where
  pub text : List ℕ
  pub gave : input'.given.bytes ≡ input.given.bytes ++ text
  pub out : List ℕ
  pub took : new.noted.bytes ≡ old.noted.bytes ++ out
  pub so : IsAnsweredSo None core sectors text status out
  pub opened : (IsWholeText text input'.ended × (process'.opened.texts ≡ process.opened.texts ++ path ∷ [])) ⊎ (IsStoppedEarly status × (process'.opened.texts ≡ process.opened.texts))

-- Each writer took some bytes. Of two calls that are whole the statuses and the bytes are the same. If one is whole, the bytes of the other
-- are cut from its own.
pub record TookTheSame {W X : Type 0} {w : write.Ghosts W} {x : write.Ghosts X} (old new : RecordedSink W w) (status : ℕ) (old' new' : RecordedSink X x) (status' : ℕ) : Type 0 where
  pub out : List ℕ
  pub out' : List ℕ
  pub took : new.noted.bytes ≡ old.noted.bytes ++ out
  pub took' : new'.noted.bytes ≡ old'.noted.bytes ++ out'
  pub same : IsWhole status → IsWhole status' → (status ≡ status') × (out ≡ out')
  pub cut : IsWhole status' → IsCutFrom out' out
  pub cut' : IsWhole status → IsCutFrom out out'

-- Of a text and a writer in memory. So many first bytes of the text were read, all of them if it was read to its end. What the machine of the
-- model prints for them stands behind what the writer held.
pub record PrintsBehind (core sectors : ℕ) (text held held' : List ℕ) (status : ℕ) : Type 0 where
  pub read : List ℕ
  pub rest : List ℕ
  pub first : text ≡ read ++ rest
  pub all : IsStoppedEarly status ⊎ (length read ≤ limit → rest ≡ [])
  pub out : List ℕ
  pub printed : held' ≡ held ++ out
  pub so : IsAnsweredSo None core sectors read status out
