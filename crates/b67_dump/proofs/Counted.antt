-- Turns of the count of marks.
use Rattle.std.proofs.Common.{◌≡◌, ℕ, zero, suc, ◌+◌, ◌-◌, ◌<◌, List, length, ◌∙◌, arith}
use Rattle.b67_word.specs.Tagged.{Tagged, bits_at}
use Rattle.b67_layout_shown.specs.Reading.{word_seen_at}
use Rattle.b67_dump.specs.Walk.{marks_by, marks_in}

-- the marks passed, and those from the one come to
pub record HasPassed (core : List Tagged) (turns mark turn at : ℕ) : Type 0 where
  pub number : length (marks_in core turns mark) ≡ turn + length (marks_in core (turns - turn) at)

pub none_passed : (core : List Tagged) (turns mark : ℕ) → HasPassed core turns mark 0 mark
none_passed core turns mark = grind arith

turn_is : (core : List Tagged) (turns turn at back : ℕ) → turn < turns → bits_at (word_seen_at core at) 0 14 ≡ back
    → length (marks_in core (turns - turn) at) ≡ suc (length (marks_by back (λ d. marks_in core (turns - (turn + 1)) (at - d))))
unfolding marks_in
turn_is core turns turn at back low e = grind arith

pub last_passed : (core : List Tagged) (turns mark turn at back : ℕ) → HasPassed core turns mark turn at → turn < turns → bits_at (word_seen_at core at) 0 14 ≡ back → back ≡ 0
    → turn + 1 ≡ length (marks_in core turns mark)
last_passed core turns mark turn at back h low e z =
    let one = turn_is core turns turn at 0 low (e ∙ z) in
    grind arith

pub one_passed : (core : List Tagged) (turns mark turn at back : ℕ) → HasPassed core turns mark turn at → turn < turns → bits_at (word_seen_at core at) 0 14 ≡ back → 0 < back → HasPassed core turns mark (turn + 1) (at - back)
one_passed core turns mark turn at zero h low e some = absurd (omega (arith, some))
one_passed core turns mark turn at (suc back) h low e some =
    let one = turn_is core turns turn at (suc back) low e in
    grind arith

pub all_passed : (core : List Tagged) (turns mark turn at : ℕ) → HasPassed core turns mark turn at → turns ≡ turn → turns ≡ length (marks_in core turns mark)
unfolding marks_in
all_passed core turns mark turn at h e = grind arith
