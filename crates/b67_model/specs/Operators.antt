-- The operator that stands at a place of a segment's code.
use Rattle.std.specs.Prelude.{ℕ, ◌+◌, ◌-◌, ◌*◌, ◌/◌, ◌%◌, ◌^◌, nat_lt, nat_le, ◌==◌, ◌&&◌, if◌then◌else◌, List, [], ◌∷◌, Option, Some, None, Result, Ok, Err, slice_index, length, map, drop}
use Rattle.b67_word.specs.declared.couples.Place.{Place}
use Rattle.b67_model.specs.declared.operators.Op.{Op}
use Rattle.b67_model.specs.declared.operators.Op.TheVariants.{Valc, Namc, Lt8, Lt16, Lt48, Mpcw, Brun, Brtr, Brfl, Bset, Brst, Isol, Insr, Plain}
use Rattle.b67_model.specs.declared.operators.Code.{Code}
use Rattle.b67_model.specs.declared.operators.Mnemonic.{Mnemonic}
use Rattle.b67_model.specs.declared.operators.Mnemonic.TheVariants as names
use Rattle.b67_model.specs.declared.operators.TheConstants.{OPERATORS}
use Rattle.b67_model.specs.declared.operators.Undecodable.{Undecodable}
use Rattle.b67_model.specs.declared.operators.Undecodable.TheVariants.{BadPlace, NotAdmitted, PastEnd}

-- what follows an operator's first syllable
pub data Form : Type 0 where
  Alone : Code → Form
  OneMore : (ℕ → Op) → Form
  TwoMore : (ℕ → ℕ → Op) → Form
  -- the next whole word
  Literal : (ℕ → Op) → Form

abbrev pub branch : (Place → Op) → Form
branch op = TwoMore (λ high low. op (record { word = (high % 32) * 256 + low; syllable = high / 32 }))

-- what follows the first syllable of an operator of this name; VALC and NAMC keep six bits of their couple in it
abbrev pub form_of_name : Mnemonic → Form
form_of_name (names.Plain code) = Alone code
form_of_name names.Valc = OneMore Valc
form_of_name names.Namc = OneMore Namc
form_of_name names.Brun = branch Brun
form_of_name names.Brtr = branch Brtr
form_of_name names.Brfl = branch Brfl
form_of_name names.Lt8 = OneMore Lt8
form_of_name names.Lt16 = TwoMore (λ high low. Lt16 (high * 256 + low))
form_of_name names.Lt48 = Literal Lt48
form_of_name names.Mpcw = Literal Mpcw
form_of_name names.Bset = OneMore Bset
form_of_name names.Brst = OneMore Brst
form_of_name names.Isol = TwoMore Isol
form_of_name names.Insr = TwoMore Insr

-- the operators by the table, but VALC and NAMC
abbrev pub operators : List (ℕ × Form)
operators = map (λ row. (row.0, form_of_name row.2)) (drop 2 OPERATORS)

abbrev pub form_in : List (ℕ × Form) → ℕ → Option Form
form_in [] first = None
form_in (row ∷ rows) first = if row.0 == first then Some row.1 else form_in rows first

-- VALC and NAMC keep six bits of their couple in the first syllable
abbrev pub form_of : ℕ → Option Form
form_of first =
    if nat_lt first 0x40 then Some (OneMore (λ low. Valc (first * 256 + low)))
    else (if nat_lt first 0x80 then Some (OneMore (λ low. Namc ((first - 0x40) * 256 + low)))
    else form_in operators first)

-- syllable n of the code, 0 past its end
abbrev pub syllable : List ℕ → ℕ → ℕ
syllable code n = (slice_index code (n / 6) / 256 ^ (5 - n % 6)) % 256

abbrev pub place_at : ℕ → Place
place_at n = record { word = n / 6; syllable = n % 6 }

abbrev pub count_at : Place → ℕ
count_at at = 6 * at.word + at.syllable

-- the place in a branch's 16 bits: three of syllable, thirteen of word
abbrev pub place_of_bits : ℕ → Place
place_of_bits bits = record { word = bits % 2 ^ 13; syllable = bits / 2 ^ 13 }

-- an operator and the place after it
abbrev pub Reading : Type 0
Reading = Result (Op × Place) Undecodable

-- an operator that ends before syllable `end`
abbrev pub ends_at : List ℕ → ℕ → Op → Reading
ends_at code end op = if nat_le end (6 * length code) then Ok (op, place_at end) else Err PastEnd

abbrev pub reads : List ℕ → ℕ → Option Form → Reading
reads code n None = Err NotAdmitted
reads code n (Some (Alone op)) = ends_at code (n + 1) (Plain op)
reads code n (Some (OneMore op)) = ends_at code (n + 2) (op (syllable code (n + 1)))
reads code n (Some (TwoMore op)) = ends_at code (n + 3) (op (syllable code (n + 1)) (syllable code (n + 2)))
reads code n (Some (Literal op)) = ends_at code (6 * (n / 6 + 2)) (op (slice_index code (n / 6 + 1)))

abbrev pub operator_at : List ℕ → Place → Reading
operator_at code at =
    if nat_lt at.syllable 6 && nat_lt at.word (length code)
    then reads code (count_at at) (form_of (syllable code (count_at at)))
    else Err BadPlace
