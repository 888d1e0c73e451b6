-- What all values of a kind tell.
use Rattle.std.specs.Prelude.{◌≢◌, List, [], Option, Some, None}

-- each of them tells something
abbrev pub AllTell : {X A : Type 0} → (X → Option A) → Type 0
AllTell {X = X} tell = (x : X) → tell x ≢ None

-- what is told, or nothing
abbrev pub known : {A : Type 0} → Option (List A) → List A
known (Some xs) = xs
known None = []
