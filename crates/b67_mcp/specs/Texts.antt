-- The values of a row in core, and the text of its lines.
use Rattle.std.specs.Prelude.{◌≡◌, ℕ, ◌+◌, ◌*◌, ◌≤◌, ℤ, List, [], ◌∷◌, ◌++◌, length, Bool, true, false, Option, Some, None}
use Rattle.b67_word.specs.Tagged.{Tagged}
use Rattle.b67_word.specs.Operands.{number_of}
use Rattle.b67_io.specs.Told.{Continues}
use Rattle.b67_model.specs.Lines.{row_text}

-- a number, and those of the words behind it
abbrev pub values_with : Option ℤ → Option (List ℤ) → Option (List ℤ)
values_with (Some v) (Some vs) = Some (v ∷ vs)
values_with _ _ = None

-- the numbers of words, if each word is a whole operand
abbrev pub values_of : List Tagged → Option (List ℤ)
values_of [] = Some []
values_of (w ∷ ws) = values_with (number_of w) (values_of ws)

abbrev pub is_some : Option (List ℤ) → Bool
is_some None = false
is_some (Some vs) = true

-- what is still to be printed where a line has begun, on which so many values have room
abbrev pub still : List ℕ → List ℕ → ℕ → List ℤ → List ℕ
still name line room vs = line ++ row_text name room vs

-- the values that have room fit in a line of 192 bytes
abbrev pub FitsLine : List ℕ → ℕ → Type 0
FitsLine line room = length line + 14 * room ≤ 181

-- Of a text so many first bytes were printed before, and so many are now. The lines before the one that has begun are printed,
-- and have so many bytes; what follows them is still to come.
pub record IsPrinting {K : Type 0} (taken : K → Option (List ℕ)) (old now : K) (text : List ℕ) (before printed start : ℕ) (rest : List ℕ) : Type 0 where
  pub lines : List ℕ
  pub long : length lines ≡ start
  pub past : start ≤ printed
  pub later : before ≤ printed
  pub continues : Continues taken old now text before printed
  pub same : text ≡ lines ++ rest
