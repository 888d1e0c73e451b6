-- Turns of the search for the record that an address lies in.
use Rattle.std.proofs.Common.{◌≡◌, ℕ, zero, suc, ◌+◌, ◌-◌, ◌<◌, ◌≤◌, Bool, List, [], ◌∷◌, length, sym, ◌∙◌, ap, arith}
use Rattle.std.specs.Prelude.{if◌then◌else◌}
use Rattle.std.proofs.lemmas.Bool.{lt-leb}
use Rattle.b67_word.specs.Tagged.{Tagged, bits_at}
use Rattle.b67_layout_shown.specs.Reading.{word_seen_at}
use Rattle.b67_dump.specs.Walk.{marks_by, marks_in, marks_under, offset_from}

-- the marks from the one come to have the one sought among them, if there is one
pub record IsSought (core : List Tagged) (turns mark home turn at : ℕ) : Type 0 where
  pub same : marks_under home (marks_in core turns mark) ≡ marks_under home (marks_in core (turns - turn) at)

pub none_passed : (core : List Tagged) (turns mark home : ℕ) → IsSought core turns mark home 0 mark
none_passed core turns mark home = let all : turns ≡ turns - 0 = omega arith in record { same = ap (λ n. marks_under home (marks_in core n mark)) all }

-- the marks below one
abbrev under : List Tagged → ℕ → ℕ → ℕ → ℕ → List ℕ
under core turns turn at back = marks_by back (λ d. marks_in core (turns - (turn + 1)) (at - d))

marks_are : (core : List Tagged) (turns turn at back : ℕ) → turn < turns → bits_at (word_seen_at core at) 0 14 ≡ back → marks_in core (turns - turn) at ≡ at ∷ under core turns turn at back
unfolding marks_in
marks_are core turns turn at back low e = grind arith

found : (core : List Tagged) (turns mark home turn at : ℕ) → IsSought core turns mark home turn at → turn < turns → at ≤ home
    → marks_under home (marks_in core turns mark) ≡ at ∷ under core turns turn at (bits_at (word_seen_at core at) 0 14)
found core turns mark home turn at h low here = grind (arith, marks_are)

pub found_number : (core : List Tagged) (turns mark home turn at count : ℕ) → IsSought core turns mark home turn at → turn < turns → at ≤ home
    → count ≡ length (marks_in core (turns - turn) at) → count ≡ length (marks_under home (marks_in core turns mark))
found_number core turns mark home turn at count h low here e = grind (arith, marks_are, found)

pub found_offset : (core : List Tagged) (turns mark home turn at offset : ℕ) → IsSought core turns mark home turn at → turn < turns → at ≤ home
    → offset ≡ offset_from core home (at ∷ []) → offset ≡ offset_from core home (marks_under home (marks_in core turns mark))
found_offset core turns mark home turn at offset h low here e = e ∙ sym (ap (offset_from core home) (found core turns mark home turn at h low here))

pub none_below : (core : List Tagged) (turns mark home turn at back : ℕ) → IsSought core turns mark home turn at → turn < turns → home < at → bits_at (word_seen_at core at) 0 14 ≡ back → back ≡ 0
    → [] ≡ marks_under home (marks_in core turns mark)
none_below core turns mark home turn at back h low past e z =
    sym (h.same ∙ ap (λ fs. marks_under home fs) (marks_are core turns turn at 0 low (e ∙ z)) ∙ ap (λ (b : Bool). if b then at ∷ [] else []) (lt-leb at home past))

pub all_passed : (core : List Tagged) (turns mark home turn at : ℕ) → IsSought core turns mark home turn at → turns ≡ turn → [] ≡ marks_under home (marks_in core turns mark)
unfolding marks_in
all_passed core turns mark home turn at h e = let none : turns - turn ≡ 0 = omega (arith, e) in sym (h.same ∙ ap (λ n. marks_under home (marks_in core n at)) none)

pub one_down : (core : List Tagged) (turns mark home turn at back : ℕ) → IsSought core turns mark home turn at → turn < turns → home < at → bits_at (word_seen_at core at) 0 14 ≡ back → 0 < back
    → IsSought core turns mark home (turn + 1) (at - back)
one_down core turns mark home turn at zero h low past e some = absurd (omega (arith, some))
one_down core turns mark home turn at (suc back) h low past e some =
    let rest = under core turns turn at (suc back) in
    record { same = h.same ∙ ap (λ fs. marks_under home fs) (marks_are core turns turn at (suc back) low e) ∙ ap (λ (b : Bool). if b then at ∷ rest else marks_under home rest) (lt-leb at home past) }
