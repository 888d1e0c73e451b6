-- What is read into memory before a command is carried out.
use Rattle.std.specs.Prelude.{◌≡◌, ◌≤◌, ◌+◌, ℕ, List, [], length, Option, Some, None, Result, Ok, Err}
use Rattle.b67_io.specs.Causes.{Rose}
use Rattle.b67_io.specs.Told.{Gave, IsAtEnd}
use Rattle.b67_program.specs.declared.reading.InputFault.{InputFault}
use Rattle.b67_program.specs.declared.reading.InputFault.TheVariants.{SourceFault, Memory}

-- The source gave exactly these bytes, in order: all that it had, or one more than the most that are asked for. No read failed.
pub record WasReadUpTo {S : Type 0} (most : ℕ) (left : S → Option (List ℕ)) (faults : S → ℕ) (old new : S) (bytes : List ℕ) : Type 0 where
  pub gave : Gave left old new bytes
  pub few : length bytes ≤ most + 1
  pub all : length bytes ≤ most → IsAtEnd left new
  pub calm : faults new ≡ faults old

-- They are in memory, or a read failed, or memory was refused, and then no read failed.
abbrev pub IsInputUpTo : {S : Type 0} → ℕ → (S → Option (List ℕ)) → (S → ℕ) → S → S → Result (List ℕ) InputFault → Type 0
IsInputUpTo most left faults old new (Ok bytes) = WasReadUpTo most left faults old new bytes
IsInputUpTo most left faults old new (Err SourceFault) = Rose faults old new
IsInputUpTo most left faults old new (Err Memory) = faults new ≡ faults old

-- the same where a text is read; where none is, the source is left as it was, and there are no bytes
abbrev pub IsTakenIn : {S : Type 0} → Option ℕ → (S → Option (List ℕ)) → (S → ℕ) → S → S → Result (List ℕ) InputFault → Type 0
IsTakenIn (Some most) left faults old new result = IsInputUpTo most left faults old new result
IsTakenIn None left faults old new result = (new ≡ old) × (result ≡ Ok [])
