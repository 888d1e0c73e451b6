-- An operator is read where its syllables and its literal stand.
use Rattle.std.proofs.Common.{◌≡◌, ℕ, ◌+◌, ◌-◌, ◌*◌, ◌/◌, ◌%◌, ◌^◌, ◌≤◌, ◌<◌, true, refl, ◌∙◌, ap, arith, Option, Some, None, List, [], ◌∷◌, length, Ok}
use Rattle.std.specs.Prelude.{nat_lt, nat_le, ◌&&◌, IsTrue, slice_get}
use Rattle.std.proofs.lemmas.Bool.Decides.{nat_tests}
use Rattle.std.proofs.lemmas.Option.{slice_get_within, get_or_from_slice_get}
use Rattle.b67_word.specs.declared.couples.Place.{Place}
use Rattle.b67_model.specs.declared.operators.Op.{Op}
use Rattle.b67_model.specs.declared.operators.Op.TheVariants.{Valc, Namc, Lt8, Lt16, Lt48, Mpcw, Brun, Brtr, Brfl, Bset, Brst, Isol, Insr, Plain}
use Rattle.b67_model.specs.declared.operators.Code.{Code}
use Rattle.b67_model.specs.declared.operators.Code.TheVariants.{Add}
use Rattle.b67_model.specs.Common.{Form, Alone, OneMore, TwoMore, Literal, form_of, syllable, count_at, place_at, ends_at, reads, operator_at, branch, syllable_of, syllables, literal, with_16, target_bits, has_bits, IsLaid, ReadsBack}
use Rattle.b67_syllable.proofs.KindLemmas.{value_kind, name_kind}

-- the first syllable is looked at
begins : (code : List ℕ) (at : Place) (first : ℕ) (f : Form) → at.syllable < 6 → count_at at < 6 * length code → syllable code (count_at at + 0) ≡ first → form_of first ≡ Some f → operator_at code at ≡ reads code (count_at at) (Some f)
begins code at first f in_word inside is of =
    let one : nat_lt at.syllable 6 ≡ true = grind (arith, nat_tests) in
    let within : at.word < length code = omega arith in
    let two : nat_lt at.word (length code) ≡ true = grind (arith, nat_tests) in
    let same : count_at at ≡ count_at at + 0 = omega arith in
    grind arith

ends : (code : List ℕ) (end : ℕ) (op : Op) → end ≤ 6 * length code → ends_at code end op ≡ Ok (op, place_at end)
ends code end op within = grind arith

alone : (code : List ℕ) (at : Place) (first : ℕ) (op : Code) → form_of first ≡ Some (Alone op) → at.syllable < 6 → IsLaid (first ∷ []) None code (count_at at) → operator_at code at ≡ Ok (Plain op, place_at (count_at at + 1))
alone code at first op of in_word laid =
    begins code at first (Alone op) in_word (omega (arith, laid.inside)) (laid.each 0 (omega arith)) of ∙ ends code (count_at at + 1) (Plain op) (omega (arith, laid.inside))

one_more : (code : List ℕ) (at : Place) (first low : ℕ) (op : ℕ → Op) → form_of first ≡ Some (OneMore op) → at.syllable < 6 → IsLaid (first ∷ low ∷ []) None code (count_at at) → operator_at code at ≡ Ok (op low, place_at (count_at at + 2))
one_more code at first low op of in_word laid =
    begins code at first (OneMore op) in_word (omega (arith, laid.inside)) (laid.each 0 (omega arith)) of ∙
    ap (λ s. ends_at code (count_at at + 2) (op s)) (laid.each 1 (omega arith)) ∙
    ends code (count_at at + 2) (op low) (omega (arith, laid.inside))

two_more : (code : List ℕ) (at : Place) (first high low : ℕ) (op : ℕ → ℕ → Op) → form_of first ≡ Some (TwoMore op) → at.syllable < 6 → IsLaid (first ∷ high ∷ low ∷ []) None code (count_at at) → operator_at code at ≡ Ok (op high low, place_at (count_at at + 3))
two_more code at first high low op of in_word laid =
    begins code at first (TwoMore op) in_word (omega (arith, laid.inside)) (laid.each 0 (omega arith)) of ∙
    ap (λ s. ends_at code (count_at at + 3) (op s (syllable code (count_at at + 2)))) (laid.each 1 (omega arith)) ∙
    ap (λ s. ends_at code (count_at at + 3) (op high s)) (laid.each 2 (omega arith)) ∙
    ends code (count_at at + 3) (op high low) (omega (arith, laid.inside))

next_word : (code : List ℕ) (at : Place) (first bits : ℕ) (op : ℕ → Op) → form_of first ≡ Some (Literal op) → at.syllable < 6 → IsLaid (first ∷ []) (Some bits) code (count_at at) → operator_at code at ≡ Ok (op bits, place_at (6 * (count_at at / 6 + 2)))
next_word code at first bits op of in_word laid =
    let some : slice_get code (count_at at / 6 + 1) ≡ Some bits = laid.next_word in
    let inside : count_at at / 6 + 1 < length code = slice_get_within code (count_at at / 6 + 1) bits some in
    begins code at first (Literal op) in_word (omega (arith, laid.inside)) (laid.each 0 (omega arith)) of ∙
    ap (λ w. ends_at code (6 * (count_at at / 6 + 2)) (op w)) (get_or_from_slice_get code (count_at at / 6 + 1) bits 0 some) ∙
    ends code (6 * (count_at at / 6 + 2)) (op bits) (omega arith)

form_of_code : (code : Code) → form_of (syllable_of code) ≡ Some (Alone code)
form_of_code Add = refl
form_of_code _ = refl

below : (n k : ℕ) → IsTrue (nat_lt n k) → n < k
below n k h = grind (arith, nat_tests)

-- two syllables of sixteen bits
joined : (n : ℕ) → n < 2 ^ 16 → n / 256 % 256 * 256 + n % 256 ≡ n
joined n h = omega arith

value_at : (bits : ℕ) → bits < 2 ^ 14 → ReadsBack (Valc bits) (syllables (Valc bits)) None
value_at bits small code at in_word laid =
    let first : bits / 256 % 256 < 0x40 = omega arith in
    let same : bits / 256 % 256 * 256 + bits % 256 ≡ bits = omega arith in
    one_more code at (bits / 256 % 256) (bits % 256) (λ low. Valc (bits / 256 % 256 * 256 + low)) (value_kind (bits / 256 % 256) first) in_word laid ∙
    ap (λ n. Ok (Valc n, place_at (count_at at + 2))) same

name_at : (bits : ℕ) → bits < 2 ^ 14 → ReadsBack (Namc bits) (syllables (Namc bits)) None
name_at bits small code at in_word laid =
    let first : ℕ = (2 ^ 14 + bits) / 256 % 256 in
    let from : 0x40 ≤ first = omega arith in
    let upto : first ≤ 0x7f = omega arith in
    let same : (first - 0x40) * 256 + (2 ^ 14 + bits) % 256 ≡ bits = omega arith in
    one_more code at first ((2 ^ 14 + bits) % 256) (λ low. Namc ((first - 0x40) * 256 + low)) (name_kind first (first - 0x40) from upto refl) in_word laid ∙
    ap (λ n. Ok (Namc n, place_at (count_at at + 2))) same

same_place : (p : Place) (word syllable : ℕ) → word ≡ p.word → syllable ≡ p.syllable → ◌≡◌ {A = Place} (record { word = word; syllable = syllable }) p
same_place p w s word syllable = rw (word, syllable) refl

branch_at : (op : Place → Op) (first : ℕ) → form_of first ≡ Some (branch op) → (place : Place) → IsTrue (nat_lt place.syllable 8 && nat_lt place.word (2 ^ 13)) → ReadsBack (op place) (with_16 first (target_bits place)) None
branch_at op first of place small code at in_word laid =
    let syllable : place.syllable < 8 = grind (arith, nat_tests) in
    let word : place.word < 2 ^ 13 = grind (arith, nat_tests) in
    let bits : ℕ = target_bits place in
    let same_word : (bits / 256 % 256) % 32 * 256 + bits % 256 ≡ place.word = omega arith in
    let same_syllable : bits / 256 % 256 / 32 ≡ place.syllable = omega arith in
    two_more code at first (bits / 256 % 256) (bits % 256) (λ high low. op (record { word = (high % 32) * 256 + low; syllable = high / 32 })) of in_word laid ∙
    ap (λ p. Ok (op p, place_at (count_at at + 3))) (same_place place _ _ same_word same_syllable)

pub reads_back : (op : Op) → IsTrue (has_bits op) → ReadsBack op (syllables op) (literal op)
reads_back (Valc bits) small code at in_word laid = value_at bits (below bits (2 ^ 14) small) code at in_word laid
reads_back (Namc bits) small code at in_word laid = name_at bits (below bits (2 ^ 14) small) code at in_word laid
reads_back (Lt8 n) small code at in_word laid = one_more code at 0xB2 n Lt8 refl in_word laid
reads_back (Lt16 n) small code at in_word laid = two_more code at 0xB3 _ _ (λ high low. Lt16 (high * 256 + low)) refl in_word laid ∙ ap (λ m. Ok (Lt16 m, place_at (count_at at + 3))) (joined n (below n (2 ^ 16) small))
reads_back (Lt48 bits) small code at in_word laid = next_word code at 0xBE bits Lt48 refl in_word laid
reads_back (Mpcw bits) small code at in_word laid = next_word code at 0xBF bits Mpcw refl in_word laid
reads_back (Brun place) small code at in_word laid = branch_at Brun 0xA2 refl place small code at in_word laid
reads_back (Brtr place) small code at in_word laid = branch_at Brtr 0xA1 refl place small code at in_word laid
reads_back (Brfl place) small code at in_word laid = branch_at Brfl 0xA0 refl place small code at in_word laid
reads_back (Bset n) small code at in_word laid = one_more code at 0x96 n Bset refl in_word laid
reads_back (Brst n) small code at in_word laid = one_more code at 0x9E n Brst refl in_word laid
reads_back (Isol high width) small code at in_word laid = two_more code at 0x9A high width Isol refl in_word laid
reads_back (Insr high width) small code at in_word laid = two_more code at 0x9C high width Insr refl in_word laid
reads_back (Plain code') small code at in_word laid = alone code at (syllable_of code') code' (form_of_code code') in_word laid

-- the same of equal syllables and an equal literal
pub reads_back_as : (op : Op) (s : List ℕ) (l : Option ℕ) → IsTrue (has_bits op) → s ≡ syllables op → l ≡ literal op → ReadsBack op s l
reads_back_as op s l small s_is l_is = rw (s_is, l_is) (reads_back op small)
