-- Marks of known numbers, walked down.
use Rattle.std.proofs.Common.{◌≡◌, ℕ, zero, suc, ◌-◌, ◌<◌, ◌≤◌, Bool, List, [], ◌∷◌, length, refl, ◌∙◌, ap, subst, arith}
use Rattle.std.specs.Prelude.{if◌then◌else◌}
use Rattle.std.proofs.lemmas.Bool.{lt-leb}
use Rattle.b67_word.specs.Tagged.{Tagged, bits_at}
use Rattle.b67_layout_shown.specs.Reading.{word_seen_at}
use Rattle.b67_dump.specs.Walk.{marks_by, marks_in, marks_under, offset_from}
use Rattle.b67_dump.specs.Landmarks.{IsNearest}

-- ---- turns

marks_few : (core : List Tagged) (n f : ℕ) → length (marks_in core n f) ≤ n
unfolding marks_in
marks_few core zero f = omega arith
marks_few core (suc n) f = grind (arith, marks_few core n)

-- where fewer marks than turns are met, as many turns as marks are enough
settled : (core : List Tagged) (n f : ℕ) → length (marks_in core n f) < n → (m : ℕ) → length (marks_in core n f) ≤ m → marks_in core n f ≡ marks_in core m f
unfolding marks_in
settled core zero f low m many = absurd (omega (arith, low))
settled core (suc n) f low zero many = absurd (omega (arith, many))
settled core (suc n) f low (suc m) many = grind (arith, settled core n)

-- ---- marks under an address

under_few : (home : ℕ) (marks : List ℕ) → length (marks_under home marks) ≤ length marks
under_few home [] = omega arith
under_few home (f ∷ below) = grind (arith, under_few home below)

narrowed : (home upper : ℕ) → home ≤ upper → (marks : List ℕ) → marks_under home (marks_under upper marks) ≡ marks_under home marks
narrowed home upper le [] = refl
narrowed home upper le (f ∷ below) = grind (arith, narrowed home upper le below)

here : (core : List Tagged) (home turns at : ℕ) → 0 < turns → at ≤ home → marks_under home (marks_in core turns at) ≡ marks_in core turns at
unfolding marks_in
here core home turns at some low = grind arith

-- ---- the walk down from a mark of a known number

-- the nearest mark is sought among those from the one come to, of which so many are left
pub record IsDown (core : List Tagged) (home : ℕ) (marks : List ℕ) (at left : ℕ) : Type 0 where
  pub walk : (turns : ℕ) → left ≤ turns → marks_under home marks ≡ marks_under home (marks_in core turns at)
  pub count : left ≡ length (marks_in core left at)

pub begun : (core : List Tagged) (home upper : ℕ) (marks : List ℕ) (mark number : ℕ) → home ≤ upper → IsNearest core upper marks mark number → IsDown core home marks mark number
begun core home upper marks mark number le h = grind (arith, narrowed)

pub found : (core : List Tagged) (home : ℕ) (marks : List ℕ) (at left : ℕ) → IsDown core home marks at left → 0 < left → at ≤ home → IsNearest core home marks at left
found core home marks at left h some low = grind (arith, here)

next : (core : List Tagged) (home : ℕ) (marks : List ℕ) (at n back : ℕ) → IsDown core home marks at (suc n) → 0 < n → home < at → bits_at (word_seen_at core at) 0 14 ≡ back → IsDown core home marks (at - back) n
unfolding marks_in
next core home marks at n zero h some past e = grind arith
next core home marks at n (suc back) h some past e =
    let all : suc n ≡ suc (length (marks_in core n (at - suc back))) = h.count ∙ ap (λ b. length (at ∷ marks_by b (λ d. marks_in core n (at - d)))) e in
    record {
      walk = λ turns many.
          h.walk (suc turns) (omega (arith, many)) ∙ ap (λ b. marks_under home (at ∷ marks_by b (λ d. marks_in core turns (at - d)))) e
          ∙ ap (λ (b : Bool). if b then at ∷ marks_in core turns (at - suc back) else marks_under home (marks_in core turns (at - suc back))) (lt-leb at home past);
      count = omega (arith, all);
    }

pub further : (core : List Tagged) (home : ℕ) (marks : List ℕ) (at left back : ℕ) → IsDown core home marks at left → 0 < left - 1 → home < at → bits_at (word_seen_at core at) 0 14 ≡ back
    → IsDown core home marks (at - back) (left - 1)
further core home marks at left back h some past e =
    let on : left ≡ suc (left - 1) = omega (arith, some) in
    next core home marks at (left - 1) back (subst (IsDown core home marks at) on h) some past e

-- ---- what it gives

-- the topmost mark of all, where fewer marks than turns are met
pub top_nearest : (core : List Tagged) (size top number upper : ℕ) → number ≡ length (marks_in core size top) → number < size → top ≤ upper → IsNearest core upper (marks_in core size top) top number
top_nearest core size top number upper e low le = grind (arith, here, settled)

pub number_is : (core : List Tagged) (size top mark number : ℕ) → IsNearest core mark (marks_in core size top) mark number → number ≡ length (marks_in core size mark)
number_is core size top mark number h = grind (arith, marks_few, under_few)

pub offset_is : (core : List Tagged) (home : ℕ) (marks : List ℕ) (mark number : ℕ) → 0 < number → IsNearest core home marks mark number → offset_from core home (mark ∷ []) ≡ offset_from core home (marks_under home marks)
unfolding marks_in
offset_is core home marks mark number some h = grind arith
