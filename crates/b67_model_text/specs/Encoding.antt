-- The code of a list of operators.
use Rattle.std.specs.Prelude.{ℕ, ◌+◌, ◌-◌, ◌*◌, ◌%◌, List, [], ◌∷◌, ◌++◌, length, replicate, drop, Option, Some, None}
use Rattle.std.specs.Int.{w64, to_be_bytes}
use Rattle.b67_model.specs.declared.operators.Op.{Op}
use Rattle.b67_model.specs.Encoding.{syllables, literal}

-- up to the next whole word from syllable n
abbrev pub filling : ℕ → List ℕ
filling n = replicate ((6 - n % 6) % 6) 0xFF

-- the 48 bits of a word
abbrev pub six_syllables : ℕ → List ℕ
six_syllables w = drop 2 (to_be_bytes w64 w)

abbrev pub literal_part : Option ℕ → ℕ → List ℕ
literal_part None n = []
literal_part (Some bits) n = filling n ++ six_syllables bits

-- an operator that begins at syllable n, with its literal
abbrev pub laid_one : ℕ → Op → List ℕ
laid_one n op = syllables op ++ literal_part (literal op) (n + length (syllables op))

-- the syllables of operators from syllable n on, up to a whole word
abbrev pub laid : ℕ → List Op → List ℕ
laid n [] = filling n
laid n (op ∷ more) = laid_one n op ++ laid (n + length (laid_one n op)) more

-- six syllables to a word
abbrev pub packed_words : List ℕ → List ℕ
packed_words (a ∷ b ∷ c ∷ d ∷ e ∷ f ∷ more) = (((((a * 256 + b) * 256 + c) * 256 + d) * 256 + e) * 256 + f) ∷ packed_words more
packed_words _ = []

abbrev pub code_words : List Op → List ℕ
code_words operators = packed_words (laid 0 operators)
