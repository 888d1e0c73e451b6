-- The place behind an operator that was read, and behind one of a single syllable.
use Rattle.std.proofs.Common.{◌≡◌, ℕ, ◌+◌, ◌*◌, ◌/◌, ◌<◌, ltb, ◌&&◌, Bool, true, false, cond, List, [], ◌∷◌, length, Option, Some, None, Ok, Err, inl, inr, refl, ap, subst, arith}
use Rattle.std.specs.List.{AllByRecursion}
use Rattle.std.proofs.lemmas.Bool.{cases_Bool, ltb-true, and_parts}
use Rattle.b67_word.specs.declared.couples.Place.{Place}
use Rattle.b67_ctl.specs.Layout.{IsPlace}
use Rattle.b67_model.specs.declared.operators.Op.{Op}
use Rattle.b67_model.specs.declared.operators.Op.TheVariants.{Plain}
use Rattle.b67_model.specs.declared.operators.Code.{Code}
use Rattle.b67_model.specs.declared.operators.Undecodable.TheVariants.{BadPlace}
use Rattle.b67_model.specs.Common.{Reading, Form, Alone, OneMore, TwoMore, Literal, operators, form_in, form_of, syllable, place_at, count_at, ends_at, reads, operator_at, reading_of, Task, JobConstants, SettingInOrder}
use Rattle.b67_law.proofs.Segments.{reading_fits}

pub behind_fits : (constants : JobConstants) (t : Task) (op : Op) (next : Place) → SettingInOrder constants → ◌≡◌ {A = Reading} (Ok (op, next)) (reading_of constants t) → IsPlace next
behind_fits constants t op next g is = grind (arith, reading_fits)

-- an operator with parameters
abbrev HasMore : Op → Type 0
HasMore (Plain code) = ⊥
HasMore _ = Unit {0}

abbrev FormHasMore : Form → Type 0
FormHasMore (Alone code) = Unit {0}
FormHasMore (OneMore make) = (n : ℕ) → HasMore (make n)
FormHasMore (TwoMore make) = (a b : ℕ) → HasMore (make a b)
FormHasMore (Literal make) = (n : ℕ) → HasMore (make n)

all_have_more : AllByRecursion (λ (row : ℕ × Form). FormHasMore row.1) operators
all_have_more = search

abbrev SomeHasMore : Option Form → Type 0
SomeHasMore None = Unit {0}
SomeHasMore (Some form) = FormHasMore form

rows_have_more : (rows : List (ℕ × Form)) (first : ℕ) → AllByRecursion (λ (row : ℕ × Form). FormHasMore row.1) rows → SomeHasMore (form_in rows first)
rows_have_more [] first all = tt
rows_have_more (row ∷ rows) first all = grind (arith, rows_have_more rows first all.1)

has_more : (first : ℕ) → SomeHasMore (form_of first)
has_more first = elim (cases_Bool (ltb first 64)) [
  | inl t ↦ rw t (λ n. tt)
  | inr t ↦ rw t (elim (cases_Bool (ltb first 128)) [
    | inl u ↦ rw u (λ n. tt)
    | inr u ↦ rw u (rows_have_more operators first all_have_more)
  ])
]

-- a place is one syllable behind another
pub record IsOneOn (at next : Place) : Type 0 where
  pub in_word : at.syllable < 6
  pub next_in_word : next.syllable < 6
  pub count : count_at next ≡ count_at at + 1

same_parts : (a b : Op × Place) → ◌≡◌ {A = Reading} (Ok a) (Ok b) → a ≡ b
same_parts a b e = cc

-- a reading that ends at a syllable
ends_there : (code : List ℕ) (end : ℕ) (made : Op) (read : Op × Place) → ends_at code end made ≡ Ok read → (made, place_at end) ≡ read
ends_there code end made read = grind arith

longer : (code : List ℕ) (end : ℕ) (made : Op) (c : Code) (next : Place) → HasMore made → ends_at code end made ≡ Ok (Plain c, next) → ⊥
longer code end made c next more e = subst HasMore (ap (λ (r : Op × Place). r.0) (ends_there code end made (Plain c, next) e)) more

by_form : (code : List ℕ) (n : ℕ) (form : Option Form) → SomeHasMore form → (c : Code) (next : Place) → reads code n form ≡ Ok (Plain c, next) → place_at (n + 1) ≡ next
by_form code n form more c next e = grind arith

-- an operator without parameters takes one syllable
pub one_on : (code : List ℕ) (at : Place) (c : Code) (next : Place) → operator_at code at ≡ Ok (Plain c, next) → IsOneOn at next
one_on code at c next = by_test (ltb at.syllable 6 && ltb at.word (length code)) refl
  where
    by_test : (b : Bool) → ltb at.syllable 6 && ltb at.word (length code) ≡ b → ◌≡◌ {A = Reading} (cond b (reads code (count_at at) (form_of (syllable code (count_at at)))) (Err BadPlace)) (Ok (Plain c, next)) → IsOneOn at next
    by_test false t e = absurd cc
    by_test true t e =
        let low = ltb-true at.syllable 6 (and_parts (ltb at.syllable 6) (ltb at.word (length code)) t).0 in
        let there = by_form code (count_at at) (form_of (syllable code (count_at at))) (has_more (syllable code (count_at at))) c next e in
        let P : Place → Type 0 = λ p. IsOneOn at p in
        subst P there (record { in_word = low; next_in_word = omega arith; count = omega arith })
