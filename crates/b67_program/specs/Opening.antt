-- Which files are opened.
use Rattle.std.specs.Prelude.{◌≡◌, ℕ, List, [], ◌∷◌, ◌++◌, Option, Some, None}

-- these paths were opened, in this order, and no others
pub record OpensPaths {R : Type 0} (opened : R → Option (List (List ℕ))) (old new : R) (paths : List (List ℕ)) : Type 0 where
  pub told : (before : List (List ℕ)) → opened old ≡ Some before → opened new ≡ Some (before ++ paths)

-- what the file of a path holds, if that is told, is what its sectors tell
pub record Finds {R B : Type 0} (kept : R → List ℕ → Option (List (List ℕ))) (holds : B → Option (List (List ℕ))) (now : R) (path : List ℕ) (file : B) : Type 0 where
  pub told : (all : List (List ℕ)) → kept now path ≡ Some all → holds file ≡ Some all

-- what its sectors tell is what the file of the path holds
pub record Leaves {R B : Type 0} (kept : R → List ℕ → Option (List (List ℕ))) (holds : B → Option (List (List ℕ))) (now : R) (path : List ℕ) (file : B) : Type 0 where
  pub told : (all : List (List ℕ)) → holds file ≡ Some all → kept now path ≡ Some all

-- the path that words name, if they name one
abbrev pub paths_of : Option (List ℕ) → List (List ℕ)
paths_of (Some path) = path ∷ []
paths_of None = []
