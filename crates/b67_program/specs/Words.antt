-- The words of a program.
use Rattle.std.specs.Prelude.{◌≡◌, ℕ, List, map, Option, Some}
use denote.Ref.{Bor}

-- the texts of a call's words
abbrev pub texts_of : List (Bor (List ℕ)) → List (List ℕ)
texts_of words = map (λ (word : Bor (List ℕ)). word.now) words

-- these texts are the words, if the words are told
pub record TellsWords {R : Type 0} (given : R → Option (List (List ℕ))) (now : R) (texts : List (List ℕ)) : Type 0 where
  pub told : (words : List (List ℕ)) → given now ≡ Some words → texts ≡ words
