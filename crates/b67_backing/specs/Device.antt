-- What reads and writes do to a device of sectors, where it tells what they hold.
use Rattle.std.specs.Prelude.{◌≡◌, ◌≤◌, ◌+◌, ◌-◌, ◌==◌, if◌then◌else◌, ℕ, List, [], ◌∷◌, length, Option, Some, slice_get}
use Rattle.b67_io.specs.Causes.{Rose}

-- what is told has this property
pub record Tells {D A : Type 0} (tell : D → Option A) (now : D) (P : A → Type 0) : Type 0 where
  pub told : (x : A) → tell now ≡ Some x → P x

-- what was told has become this
pub record Becomes {D A : Type 0} (tell : D → Option A) (old new : D) (f : A → A) : Type 0 where
  pub told : (x : A) → tell old ≡ Some x → tell new ≡ Some (f x)

-- what was told is changed in this way
pub record Changes {D A : Type 0} (tell : D → Option A) (old new : D) (R : A → A → Type 0) : Type 0 where
  pub told : (x : A) → tell old ≡ Some x → (y : A) × (tell new ≡ Some y) × R x y

-- the count hasn't fallen, and has risen
pub record Counts {D : Type 0} (calls : D → ℕ) (old new : D) : Type 0 where
  pub later : calls old ≤ calls new
  pub rose : Rose calls old new

-- the numbers of a sector; sectors are numbered from 1
abbrev pub sector : List (List ℕ) → ℕ → Option (List ℕ)
sector all n = slice_get all (n - 1)

-- how often a number stands in a list
abbrev pub one : ℕ → ℕ → ℕ
one i c = if c == i then 1 else 0

abbrev pub times : ℕ → List ℕ → ℕ
times i [] = 0
times i (c ∷ cs) = one i c + times i cs

-- the sectors but for those of a list hold what they held
pub record SameBut (ns : List ℕ) (old new : List (List ℕ)) : Type 0 where
  pub count : length new ≡ length old
  pub others : (m : ℕ) → 1 ≤ m → times m ns ≡ 0 → sector new m ≡ sector old m

-- sector n holds these numbers, and all others what they held
pub record Sets (n : ℕ) (numbers : List ℕ) (old new : List (List ℕ)) : Type 0 where
  pub same : SameBut (n ∷ []) old new
  pub set : sector new n ≡ Some numbers
