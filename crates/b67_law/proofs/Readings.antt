-- What is read of code: the operators' parameters have their bits, and places fit.
use Rattle.std.proofs.Common.{ℕ, ◌+◌, ◌-◌, ◌*◌, ◌/◌, ◌%◌, ◌^◌, ◌<◌, eqb, ltb, leb, List, [], ◌∷◌, length, map, drop, Option, Some, None, Ok, Err, inl, inr, arith, ◌&&◌}
use Rattle.std.specs.List.{AllByRecursion}
use Rattle.std.proofs.lemmas.Bool.{cases_Bool, leb-true, ltb-true}
use Rattle.b67_word.specs.declared.couples.Place.{Place}
use Rattle.b67_model.specs.declared.operators.Op.{Op}
use Rattle.b67_model.specs.declared.operators.Op.TheVariants.{Valc, Namc, Lt8, Lt16, Lt48, Brun, Brtr, Brfl, Plain}
use Rattle.b67_model.specs.declared.operators.Mnemonic.{Mnemonic}
use Rattle.b67_model.specs.declared.operators.Mnemonic.TheVariants as names
use Rattle.b67_model.specs.declared.operators.TheConstants.{OPERATORS}
use Rattle.b67_model.specs.Operators.{form_of_name, Form, Alone, OneMore, TwoMore, Literal, operators, form_in, form_of, syllable, count_at, Reading, reads, operator_at}
use Rattle.b67_law.proofs.RowSteps.{number_low}

-- a place that fits the fields of a control word
abbrev pub PlaceFits : Place → Type 0
PlaceFits at = (at.word < 2 ^ 13) × (at.syllable < 2 ^ 3)

-- the bits of an operator's parameters
abbrev pub OpBits : Op → Type 0
OpBits (Valc couple) = couple < 2 ^ 14
OpBits (Namc couple) = couple < 2 ^ 14
OpBits (Lt8 n) = n < 2 ^ 48
OpBits (Lt16 n) = n < 2 ^ 48
OpBits (Lt48 bits) = bits < 2 ^ 48
OpBits (Brun target) = PlaceFits target
OpBits (Brtr target) = PlaceFits target
OpBits (Brfl target) = PlaceFits target
OpBits _ = Unit {0}

abbrev FormFits : Form → Type 0
FormFits (Alone code) = Unit {0}
FormFits (OneMore op) = (low : ℕ) → low < 256 → OpBits (op low)
FormFits (TwoMore op) = (high low : ℕ) → high < 256 → low < 256 → OpBits (op high low)
FormFits (Literal op) = (w : ℕ) → w < 2 ^ 48 → OpBits (op w)

abbrev SomeFits : Option Form → Type 0
SomeFits None = Unit {0}
SomeFits (Some form) = FormFits form

name_fits : (name : Mnemonic) → FormFits (form_of_name name)
name_fits (names.Plain code) = tt
name_fits names.Valc = λ low l. omega (arith, l)
name_fits names.Namc = λ low l. omega (arith, l)
name_fits names.Brun = λ high low h l. (omega (arith, h, l), omega (arith, h))
name_fits names.Brtr = λ high low h l. (omega (arith, h, l), omega (arith, h))
name_fits names.Brfl = λ high low h l. (omega (arith, h, l), omega (arith, h))
name_fits names.Lt8 = λ low l. omega (arith, l)
name_fits names.Lt16 = λ high low h l. omega (arith, h, l)
name_fits names.Lt48 = λ w l. l
name_fits names.Mpcw = λ w l. tt
name_fits names.Bset = λ low l. tt
name_fits names.Brst = λ low l. tt
name_fits names.Isol = λ high low h l. tt
name_fits names.Insr = λ high low h l. tt

table_fits : {A : Type 0} (rows : List (ℕ × A × Mnemonic)) → AllByRecursion (λ (row : ℕ × Form). FormFits row.1) (map (λ row. (row.0, form_of_name row.2)) rows)
table_fits [] = tt
table_fits (row ∷ rows) = (name_fits row.2, table_fits rows)

form_in_fits : (rows : List (ℕ × Form)) (first : ℕ) → AllByRecursion (λ (row : ℕ × Form). FormFits row.1) rows → SomeFits (form_in rows first)
form_in_fits [] first all = tt
form_in_fits (row ∷ rows) first all = grind (arith, form_in_fits rows first all.1)

form_fits : (first : ℕ) → SomeFits (form_of first)
form_fits first = elim (cases_Bool (ltb first 64)) [
  | inl t ↦ let low = ltb-true first 64 t in rw t (λ l h. omega (arith, low, h))
  | inr t ↦ rw t (elim (cases_Bool (ltb first 128)) [
    | inl u ↦ let low = ltb-true first 128 u in rw u (λ l h. omega (arith, low, h))
    | inr u ↦ rw u (form_in_fits operators first (table_fits (drop 2 OPERATORS)))
  ])
]

-- an operator that was read, and the place after it
abbrev pub ReadFits : Reading → Type 0
ReadFits (Ok read) = OpBits read.0 × PlaceFits read.1
ReadFits (Err why) = Unit {0}

reads_fit : (code : List ℕ) (n : ℕ) (form : Option Form) → length code < 2 ^ 13 → AllByRecursion (λ (w : ℕ). w < 2 ^ 48) code → SomeFits form → ReadFits (reads code n form)
reads_fit code n form short words fits = grind (arith, number_low)

pub operator_fits : (code : List ℕ) (at : Place) → length code < 2 ^ 13 → AllByRecursion (λ (w : ℕ). w < 2 ^ 48) code → ReadFits (operator_at code at)
operator_fits code at short words = grind (arith, reads_fit, form_fits)
