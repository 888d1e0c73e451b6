-- Syllables of code, and the operator at a place.
use Rattle.std.proofs.Common.{◌≡◌, ℕ, zero, suc, ◌+◌, ◌-◌, ◌*◌, ◌/◌, ◌%◌, ◌^◌, ◌≤◌, ◌<◌, true, false, refl, sym, ◌∙◌, ap, arith, Bool, Option, Some, None, List, get_or, length, Ok, Err}
use Rattle.std.specs.Prelude.{nat_lt, nat_le, ◌&&◌, slice_index}
use Rattle.std.proofs.lemmas.Bool.Decides.{nat_tests}
use Rattle.std.proofs.lemmas.List.{get_or-map, length-map}
use Rattle.std.proofs.lemmas.Nat.{pow-add}
use Rattle.std.proofs.Math.Nat.{pow-suc}
use Rattle.b67_word.specs.declared.couples.Place.{Place}
use Rattle.b67_word.specs.Tagged.{Tagged, bits_at, contents}
use Rattle.b67_model.specs.Operators.{Form, Alone, OneMore, TwoMore, Literal, form_of, syllable, count_at, place_at, ends_at, reads, operator_at, Reading}
use Rattle.b67_model.specs.declared.operators.Op.{Op}
use Rattle.b67_model.specs.declared.operators.Undecodable.TheVariants.{PastEnd}
use Rattle.b67_model.specs.declared.operators.Code.{Code}
use Rattle.b67_model.specs.declared.operators.Op.TheVariants.{Plain}
use Rattle.b67_syllable.specs.declared.kinds.Kind.{Kind}
use Rattle.b67_syllable.specs.declared.kinds.Kind.TheVariants.{Lone}
use Rattle.b67_syllable.specs.Kinds.{form, end_of, operator_of}
use Rattle.b67_syllable.specs.Placed.{within_word}

weight : (k : ℕ) → 256 ^ k ≡ 2 ^ (8 * k)
weight zero = refl
weight (suc k) =
    let more : 8 * suc k ≡ 8 * k + 8 = omega arith in
    rw (pow-suc 256 k, more, pow-add 2 (8 * k) 8, weight k) refl

-- eight bits of the word in which a syllable stands
pub syllable_is : (code : List Tagged) (n : ℕ) (w : Tagged) → n < 6 * length code → w ≡ get_or code (n / 6) w → bits_at w (8 * (5 - n % 6)) 8 ≡ syllable (contents code) n
syllable_is code n w within is = grind (arith, get_or-map, weight)

-- the same by the place
pub first_is : (code : List Tagged) (at : Place) (w : Tagged) → at.syllable < 6 → at.word < length code → w ≡ get_or code at.word w → bits_at w (8 * (5 - at.syllable)) 8 ≡ syllable (contents code) (count_at at)
first_is code at w in_word inside is =
    let word : (6 * at.word + at.syllable) / 6 ≡ at.word = omega arith in
    grind (arith, get_or-map, weight)

-- the word after that in which a place is
pub next_is : (code : List Tagged) (at : Place) (w : Tagged) → at.syllable < 6 → at.word + 1 < length code → w ≡ get_or code (at.word + 1) w → w.bits ≡ slice_index (contents code) (count_at at / 6 + 1)
next_is code at w in_word inside is =
    let word : (6 * at.word + at.syllable) / 6 + 1 ≡ at.word + 1 = omega arith in
    grind (arith, get_or-map)

inside_is : (code : List Tagged) (at : Place) → at.syllable < 6 → at.word < length code → operator_at (contents code) at ≡ reads (contents code) (count_at at) (form_of (syllable (contents code) (count_at at)))
inside_is code at in_word word =
    let first : nat_lt at.syllable 6 ≡ true = grind (arith, nat_tests) in
    let second : nat_lt at.word (length (contents code)) ≡ true = rw (length-map code (λ (v : Tagged). v.bits)) (grind (arith, nat_tests)) in
    rw (first, second) refl

-- an operator of a kind begins at syllable n, where the place is, by its first syllable
pub record Begins (code : List Tagged) (at : Place) (n : ℕ) (kind : Kind) : Type 0 where
  pub in_word : at.syllable < 6
  pub inside : n < 6 * length code
  pub count : n ≡ count_at at
  pub first : ℕ
  pub first_is : first ≡ syllable (contents code) n
  pub form_is : form_of first ≡ Some (form kind)

pub begins : (code : List Tagged) (at : Place) (n : ℕ) (kind : Kind) → at.syllable < 6 → at.word < length code → n ≡ count_at at
    → form_of (syllable (contents code) (count_at at)) ≡ Some (form kind) → Begins code at n kind
begins code at n kind in_word word is first = record { in_word = in_word; inside = omega arith; count = is; first = _; first_is = refl; form_is = rw is first }

found : (code : List Tagged) (at : Place) (n : ℕ) (kind : Kind) → Begins code at n kind → operator_at (contents code) at ≡ ends_at (contents code) (end_of n (form kind)) (operator_of (contents code) n (form kind))
found code at n kind b = grind (arith, inside_is)

before_last : (op : Op) (end : ℕ) → end < 6 * 2 ^ 16 → within_word (Ok (op, place_at end)) ≡ Ok (op, place_at end)
before_last op end below = grind arith

behind_last : (op : Op) (end : ℕ) → 6 * 2 ^ 16 ≤ end → within_word (Ok (op, place_at end)) ≡ Err PastEnd
behind_last op end above = grind arith

pub ends : (code : List Tagged) (at : Place) (n : ℕ) (kind : Kind) → Begins code at n kind → (end : ℕ) (op : Op) (place : Place) →
    end ≡ end_of n (form kind) → op ≡ operator_of (contents code) n (form kind) → place ≡ place_at end → end ≤ 6 * length code → end < 6 * 2 ^ 16 →
    ◌≡◌ {A = Reading} (Ok (op, place)) (within_word (operator_at (contents code) at))
ends code at n kind b end op place end_is op_is place_is within below =
    let test : nat_le end (6 * length (contents code)) ≡ true = rw (length-map code (λ (v : Tagged). v.bits)) (grind (arith, nat_tests)) in
    rw (found code at n kind b, ← end_is, test, before_last (operator_of (contents code) n (form kind)) end below, place_is, op_is) refl

-- the same with the place after it, for an operator after which there is one
pub near_ends : (code : List Tagged) (at : Place) (kind : Kind) → Begins code at (count_at at) kind → (op : Op) (place : Place) →
    op ≡ operator_of (contents code) (count_at at) (form kind) → place ≡ place_at (end_of (count_at at) (form kind)) → place.word < 2 ^ 16 → count_at place ≤ 6 * length code →
    ◌≡◌ {A = Reading} (Ok (op, place)) (within_word (operator_at (contents code) at))
near_ends code at kind b op place op_is place_is small within =
    let end = end_of (count_at at) (form kind) in
    let word : place.word ≡ end / 6 = ap (λ (p : Place). p.word) place_is in
    let syllable : place.syllable ≡ end % 6 = ap (λ (p : Place). p.syllable) place_is in
    ends code at (count_at at) kind b end op place refl op_is place_is (omega (arith, word, syllable, within)) (omega (arith, word, syllable, small))

-- how many syllables lie before the place after an operator
pub near_count : (at : Place) (kind : Kind) (place : Place) → place ≡ place_at (end_of (count_at at) (form kind)) → count_at place ≡ end_of (count_at at) (form kind)
near_count at kind place place_is = grind arith

pub past_end : (code : List Tagged) (at : Place) (n : ℕ) (kind : Kind) → Begins code at n kind → (end : ℕ) →
    end ≡ end_of n (form kind) → 6 * length code < end →
    ◌≡◌ {A = Reading} (Err PastEnd) (within_word (operator_at (contents code) at))
past_end code at n kind b end end_is past =
    let test : nat_le end (6 * length (contents code)) ≡ false = rw (length-map code (λ (v : Tagged). v.bits)) (grind (arith, nat_tests)) in
    rw (found code at n kind b, ← end_is, test) refl

pub near_past : (code : List Tagged) (at : Place) (kind : Kind) → Begins code at (count_at at) kind → (place : Place) →
    place ≡ place_at (end_of (count_at at) (form kind)) → 6 * length code < count_at place →
    ◌≡◌ {A = Reading} (Err PastEnd) (within_word (operator_at (contents code) at))
near_past code at kind b place place_is past =
    let end = end_of (count_at at) (form kind) in
    let word : place.word ≡ end / 6 = ap (λ (p : Place). p.word) place_is in
    let syllable : place.syllable ≡ end % 6 = ap (λ (p : Place). p.syllable) place_is in
    past_end code at (count_at at) kind b end refl (omega (arith, word, syllable, past))

pub past_places : (code : List Tagged) (at : Place) (n : ℕ) (kind : Kind) → Begins code at n kind → (end : ℕ) →
    end ≡ end_of n (form kind) → end ≤ 6 * length code → 6 * 2 ^ 16 ≤ end →
    ◌≡◌ {A = Reading} (Err PastEnd) (within_word (operator_at (contents code) at))
past_places code at n kind b end end_is within above =
    let test : nat_le end (6 * length (contents code)) ≡ true = rw (length-map code (λ (v : Tagged). v.bits)) (grind (arith, nat_tests)) in
    rw (found code at n kind b, ← end_is, test, behind_last (operator_of (contents code) n (form kind)) end above) refl

-- an operator that is its first syllable alone
pub alone : (code : List Tagged) (at : Place) (operator : Code) (first : ℕ) (place : Place) → at.syllable < 6 → at.word < length code → at.word < 0xffff →
    first ≡ syllable (contents code) (count_at at) → form_of first ≡ Some (Alone operator) → place ≡ place_at (count_at at + 1) →
    ◌≡◌ {A = Reading} (Ok (Plain operator, place)) (within_word (operator_at (contents code) at))
alone code at operator first place in_word inside small first_is form_is place_is =
    let b : Begins code at (count_at at) (Lone operator) = record { in_word = in_word; inside = omega arith; count = refl; first = first; first_is = first_is; form_is = form_is } in
    ends code at (count_at at) (Lone operator) b (count_at at + 1) (Plain operator) place refl refl place_is (omega arith) (omega arith)

reads_placed : (code : List ℕ) (n : ℕ) (f : Option Form) → length code < 2 ^ 16 → within_word (reads code n f) ≡ reads code n f
reads_placed code n f small = grind arith

at_placed : (code : List ℕ) (at : Place) → length code < 2 ^ 16 → within_word (operator_at code at) ≡ operator_at code at
at_placed code at small = grind (arith, reads_placed)

pub in_segment : (code : List Tagged) (at : Place) (r : Reading) → r ≡ within_word (operator_at (contents code) at) → length code < 2 ^ 16 → r ≡ operator_at (contents code) at
in_segment code at r is small = is ∙ at_placed (contents code) at (rw (length-map code (λ (v : Tagged). v.bits)) small)
