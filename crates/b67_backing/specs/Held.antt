-- What a call did to the sectors of a device, where it tells them.
use Rattle.std.specs.Prelude.{◌≡◌, ℕ, zero, suc, Result, replicate, ◌+◌, ◌^◌, ◌<◌, ◌≤◌, ◌⊎◌, List, [], ◌∷◌, length, Option, Some, slice_get}
use Rattle.b67_word.specs.Tagged.{Tagged}
use Rattle.b67_io.specs.Causes.{HasCause}
pub use Rattle.b67_backing.specs.Device.{Tells, Becomes, Changes, Counts, sector, SameBut, Sets}
pub use Rattle.b67_core.specs.Numbers.{under}
pub use Rattle.b67_word.specs.Sectors.{sectors_for}

-- a device after one call or more: it has as many sectors, and its counts of calls and of failures are right
pub record WasCalled {D T E : Type 0} (many counted failed : D → ℕ) (old new : D) (result : Result T E) : Type 0 where
  pub size : many new ≡ many old
  pub calls : Counts counted old new
  pub cause : HasCause failed old new result

-- and it tells what it told
pub record WasRead {D A T E : Type 0} (tell : D → Option A) (many counted failed : D → ℕ) (old new : D) (result : Result T E) : Type 0 where
  pub called : WasCalled many counted failed old new result
  pub same : Becomes tell old new (λ all. all)

-- what a call leaves of a device: as many sectors, a count of calls that hasn't fallen, and a count of faults that has risen if it failed
pub record KeepsCounts {D T E : Type 0} (many counted failed : D → ℕ) (old new : D) (result : Result T E) : Type 0 where
  pub size : many new ≡ many old
  pub calls : counted old ≤ counted new
  pub cause : HasCause failed old new result

-- so many sectors of 30 zeros
abbrev pub blank : ℕ → List (List ℕ)
blank sectors = replicate sectors (replicate 30 zero)

-- the numbers from a place on lie in these sectors, 30 in each
abbrev pub Holds : List (List ℕ) → List ℕ → ℕ → List ℕ → Type 0
Holds all [] at numbers = length numbers ≤ at
Holds all (c ∷ cs) at numbers =
    ((s : List ℕ) × (sector all c ≡ Some s) × ((i : ℕ) → i < 30 → at + i < length numbers → slice_get s i ≡ slice_get numbers (at + i))) × Holds all cs (at + 30) numbers

-- the number at a place of a list, 0 past its end
abbrev pub number_at : List ℕ → ℕ → ℕ
number_at [] i = 0
number_at (n ∷ ns) zero = n
number_at (n ∷ ns) (suc i) = number_at ns i

-- the numbers from a place on lie in these sectors, 30 in each, and after them zeros up to the end of the last one
abbrev pub Fills : List (List ℕ) → List ℕ → ℕ → List ℕ → Type 0
Fills all [] at numbers = length numbers ≤ at
Fills all (c ∷ cs) at numbers =
    ((s : List ℕ) × (sector all c ≡ Some s) × ((i : ℕ) → i < 30 → slice_get s i ≡ Some (number_at numbers (at + i)))) × Fills all cs (at + 30) numbers

-- the sectors of a chain hold these numbers, 30 in each, with zeros after them, and all other sectors what they held
pub record Stores (chain numbers : List ℕ) (old new : List (List ℕ)) : Type 0 where
  pub same : SameBut chain old new
  pub holds : Fills new chain 0 numbers

-- the words of core from an address on have this tag and the 48 bits of a word
pub record AreTagged (core : List Tagged) (at words tag : ℕ) : Type 0 where
  pub tags : (i : ℕ) → i < words → (w : Tagged) × (slice_get core (at + i) ≡ Some w) × (w.tag ≡ tag)
  pub low : (i : ℕ) → i < words → (w : Tagged) × (slice_get core (at + i) ≡ Some w) × (w.bits < 2 ^ 48)

-- no core word has changed but so many from an address on
pub record OnlyWords (at words : ℕ) (old new : List Tagged) : Type 0 where
  pub outside : (i : ℕ) → (i < at) ⊎ (at + words ≤ i) → slice_get new i ≡ slice_get old i
  pub len : length new ≡ length old
