-- What is known of an operator that was read.
use Rattle.std.proofs.Common.{◌≡◌, ℕ, ◌+◌, ◌-◌, ◌*◌, ◌/◌, ◌<◌, ◌≤◌, Bool, true, false, cond, ltb, leb, eqb, ◌&&◌, List, [], ◌∷◌, length, map, drop, Option, Some, None, Result, Ok, Err, refl, sym, ap, subst, ◌∙◌, arith}
use Rattle.std.specs.List.{AllByRecursion}
use Rattle.std.proofs.lemmas.Bool.{ltb-true, lt-ltb, le-ltb, and_parts}
use Rattle.b67_word.specs.declared.couples.Place.{Place}
use Rattle.b67_model.specs.declared.operators.Op.{Op}
use Rattle.b67_model.specs.declared.operators.Op.TheVariants as op
use Rattle.b67_model.specs.declared.operators.Undecodable.{Undecodable}
use Rattle.b67_model.specs.declared.operators.Undecodable.TheVariants.{BadPlace, PastEnd}
use Rattle.b67_model.specs.declared.operators.Mnemonic.{Mnemonic}
use Rattle.b67_model.specs.declared.operators.Mnemonic.TheVariants as names
use Rattle.b67_model.specs.declared.operators.TheConstants.{OPERATORS}
use Rattle.b67_model.specs.Operators.{form_of_name, Form, Alone, OneMore, TwoMore, Literal, Reading, operators, form_in, form_of, syllable, count_at, reads, operator_at}
use Rattle.b67_load.specs.Listing.{CoupleFits}

-- ---- where the next operator stands

-- a value behind a test that did not fail
test_ok : {A : Type 0} (b : Bool) (d : Undecodable) (r : Result A Undecodable) (y : A) → cond b r (Err d) ≡ Ok y → (b ≡ true) × (r ≡ Ok y)
test_ok b d r y e = grind arith

abbrev done : Op × Place → Reading
done x = Ok x

ok_is : (x y : Op × Place) → done x ≡ done y → x ≡ y
ok_is x y e = cc

-- an operator that ends at a syllable, and the place behind it
pub record Ends (code : List ℕ) (n : ℕ) (op : Op) (read : Op × Place) : Type 0 where
  pub is : read.0 ≡ op
  pub after : n < count_at read.1
  pub syllable : read.1.syllable < 6

-- ---- couples have 14 bits

-- the couples that a form of operator takes
abbrev FormFits : Form → Type 0
FormFits (Alone code) = Unit {0}
FormFits (OneMore op) = (n : ℕ) → n < 256 → CoupleFits (op n)
FormFits (TwoMore op) = (a b : ℕ) → CoupleFits (op a b)
FormFits (Literal op) = (n : ℕ) → CoupleFits (op n)

abbrev AnyFits : Option Form → Type 0
AnyFits None = Unit {0}
AnyFits (Some form) = FormFits form

form_in-fits : (rows : List (ℕ × Form)) (first : ℕ) → AllByRecursion (λ row. FormFits row.1) rows → AnyFits (form_in rows first)
form_in-fits [] first h = tt
form_in-fits (row ∷ rows) first h = grind (arith, form_in-fits rows first h.1)

name_fits : (name : Mnemonic) → FormFits (form_of_name name)
name_fits (names.Plain code) = tt
name_fits names.Valc = λ n lt. omega (arith, lt)
name_fits names.Namc = λ n lt. omega (arith, lt)
name_fits names.Brun = λ a b. tt
name_fits names.Brtr = λ a b. tt
name_fits names.Brfl = λ a b. tt
name_fits names.Lt8 = λ n lt. tt
name_fits names.Lt16 = λ a b. tt
name_fits names.Lt48 = λ n. tt
name_fits names.Mpcw = λ n. tt
name_fits names.Bset = λ n lt. tt
name_fits names.Brst = λ n lt. tt
name_fits names.Isol = λ a b. tt
name_fits names.Insr = λ a b. tt

table_fits : {A : Type 0} (rows : List (ℕ × A × Mnemonic)) → AllByRecursion (λ (row : ℕ × Form). FormFits row.1) (map (λ row. (row.0, form_of_name row.2)) rows)
table_fits [] = tt
table_fits (row ∷ rows) = (name_fits row.2, table_fits rows)

operators_fit : AllByRecursion (λ row. FormFits row.1) operators
operators_fit = table_fits (drop 2 OPERATORS)

form_of-fits : (first : ℕ) → AnyFits (form_of first)
form_of-fits first = valc (ltb first 0x40) refl
  where
    namc : (b : Bool) → ltb first 0x80 ≡ b → AnyFits (cond b (Some (OneMore (λ low. op.Namc ((first - 0x40) * 256 + low)))) (form_in operators first))
    namc true e = λ n lt. let small : first < 0x80 = ltb-true _ _ e in omega arith
    namc false e = form_in-fits operators first operators_fit

    valc : (b : Bool) → ltb first 0x40 ≡ b → AnyFits (cond b (Some (OneMore (λ low. op.Valc (first * 256 + low)))) (cond (ltb first 0x80) (Some (OneMore (λ low. op.Namc ((first - 0x40) * 256 + low)))) (form_in operators first)))
    valc true e = λ n lt. let small : first < 0x40 = ltb-true _ _ e in omega arith
    valc false e = namc (ltb first 0x80) refl

-- ---- both

-- what stands behind syllable n was read there, and its couple has 14 bits
pub record IsOperator (n : ℕ) (read : Op × Place) : Type 0 where
  pub after : n < count_at read.1
  pub syllable : read.1.syllable < 6
  pub couple : CoupleFits read.0

fits : (code : List ℕ) (n : ℕ) (op : Op) (read : Op × Place) → CoupleFits op → Ends code n op read → IsOperator n read
fits code n op read h e = record { after = e.after; syllable = e.syllable; couple = subst CoupleFits (sym e.is) h }

reads-is : (code : List ℕ) (n : ℕ) (form : Option Form) (read : Op × Place) → AnyFits form → reads code n form ≡ Ok read → IsOperator n read
reads-is code n form read h e = grind arith

-- a place inside the code
pub record IsPlaceIn (code : List ℕ) (at : Place) : Type 0 where
  pub word : at.word < length code
  pub syllable : at.syllable < 6

-- anything but a bad place is read inside the code
pub operator_at-inside : (code : List ℕ) (at : Place) (read : Reading) → (read ≡ Err BadPlace → ⊥) → operator_at code at ≡ read → IsPlaceIn code at
operator_at-inside code at read other e = grind (arith, ltb-true)

pub operator_at-is : (code : List ℕ) (at : Place) (read : Op × Place) → operator_at code at ≡ Ok read → IsOperator (count_at at) read
operator_at-is code at read e =
    let t = test_ok (ltb at.syllable 6 && ltb at.word (length code)) BadPlace (reads code (count_at at) (form_of (syllable code (count_at at)))) read e in
    reads-is code (count_at at) (form_of (syllable code (count_at at))) read (form_of-fits (syllable code (count_at at))) t.1

reads-inside : (code : List ℕ) (n : ℕ) (form : Option Form) → reads code n form ≡ Err BadPlace → ⊥
reads-inside code n form e = grind arith

pub operator_at-reads : (code : List ℕ) (at : Place) (why : Undecodable) → IsPlaceIn code at → operator_at code at ≡ Err why → why ≡ BadPlace → ⊥
operator_at-reads code at why inside e bad = grind (arith, lt-ltb, reads-inside)

pub operator_at-outside : (code : List ℕ) (at : Place) → length code ≤ at.word → operator_at code at ≡ Err BadPlace
operator_at-outside code at le = grind (arith, le-ltb)
