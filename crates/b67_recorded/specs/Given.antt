-- What a recorded input gave.
use Rattle.std.specs.Prelude.{◌≡◌, ◌≤◌, ◌+◌, ◌++◌, ◌-◌, ◌^◌, ℕ, List, [], length, min, Bool, true, Option, Some, None, Result, Ok, Err}
use Rattle.b67_program.specs.declared.reading.InputFault.{InputFault}
use Rattle.b67_program.specs.declared.reading.InputFault.TheVariants.{SourceFault, Memory}

-- Exactly these bytes were given, in order, behind those that were given before: all up to the end, or one more than the most that are
-- asked for.
pub record WasGiven (most : ℕ) (before after : List ℕ) (ended : Bool) (bytes : List ℕ) : Type 0 where
  pub gave : after ≡ before ++ bytes
  pub few : length bytes ≤ most + 1
  pub all : length bytes ≤ most → ended ≡ true

-- They are in memory, and no read failed; or a read failed; or memory was refused, and no read failed.
abbrev pub WasTakenIn : ℕ → List ℕ → List ℕ → ℕ → ℕ → Bool → Result (List ℕ) InputFault → Type 0
WasTakenIn most before after failed failed' ended (Ok bytes) = WasGiven most before after ended bytes × (failed' ≡ failed)
WasTakenIn most before after failed failed' ended (Err SourceFault) = min (failed + 1) (2 ^ 64 - 1) ≤ failed'
WasTakenIn most before after failed failed' ended (Err Memory) = failed' ≡ failed

-- the same where a text is read; where none is, nothing is given, and there are no bytes
abbrev pub WasTextTaken : Option ℕ → List ℕ → List ℕ → ℕ → ℕ → Bool → Result (List ℕ) InputFault → Type 0
WasTextTaken (Some most) before after failed failed' ended result = WasTakenIn most before after failed failed' ended result
WasTextTaken None before after failed failed' ended result = (after ≡ before) × (failed' ≡ failed) × (result ≡ Ok [])
