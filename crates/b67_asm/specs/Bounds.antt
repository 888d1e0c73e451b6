-- What is known of a number that was read.
use Rattle.std.specs.Prelude.{ℕ, Option, Some, None}

-- a number that is there, and in its range, meets this
abbrev pub IfInRange : Option (Option ℕ) → (ℕ → Type 0) → Type 0
IfInRange None P = Unit {0}
IfInRange (Some None) P = Unit {0}
IfInRange (Some (Some n)) P = P n
