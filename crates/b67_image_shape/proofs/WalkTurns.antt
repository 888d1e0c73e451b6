-- Turns of the walk down a stack.
use Rattle.std.proofs.Common.{◌≡◌, ◌≢◌, ℕ, zero, suc, ◌+◌, ◌-◌, ◌<◌, ◌≤◌, ◌^◌, ◌==◌, Bool, true, false, List, refl, sym, ◌∙◌, ap, arith, lt-ltb, le-ltb}
use Rattle.std.specs.Prelude.{◌&&◌, nat_lt}
use Rattle.std.proofs.lemmas.Bool.{eq-eqb, ne_eqb}
use Rattle.b67_word.specs.Tagged.{Tagged, bits_at}
use Rattle.b67_layout_shown.specs.Reading.{word_seen_at, mscw_in}
use Rattle.b67_image_shape.specs.StackWalk.{cell_fits, cells_fit, record_fits, level_under, under_fits, walk_test}

-- ---- cells

-- the cells below so many are still to be seen
pub cells_next : (core : List Tagged) (at many left next : ℕ) → left ≡ next + 1 → cells_fit core at many ≡ cells_fit core at left → cell_fits core (at + next) ≡ true → cells_fit core at many ≡ cells_fit core at next
cells_next core at many left next e inv fits = inv ∙ ap (cells_fit core at) (let z : left ≡ suc next = omega (arith, e) in z) ∙ ap (λ (b : Bool). b && cells_fit core at next) fits

pub cells_stop : (core : List Tagged) (at many left next : ℕ) → left ≡ next + 1 → cells_fit core at many ≡ cells_fit core at left → cell_fits core (at + next) ≡ false → false ≡ cells_fit core at many
cells_stop core at many left next e inv fits = sym (inv ∙ ap (cells_fit core at) (let z : left ≡ suc next = omega (arith, e) in z) ∙ ap (λ (b : Bool). b && cells_fit core at next) fits)

pub cells_end : (core : List Tagged) (at many left : ℕ) → left ≡ 0 → cells_fit core at many ≡ cells_fit core at left → true ≡ cells_fit core at many
cells_end core at many left e inv = sym (inv ∙ ap (cells_fit core at) e)

-- ---- activation records

-- the answer is that from here on
pub record IsWalkAt (core : List Tagged) (base k segments turns top mark high turn level f s : ℕ) : Type 0 where
  pub f_small : f < 2 ^ 60
  pub s_small : s < 2 ^ 60
  pub same : walk_test core base k segments turns top mark high ≡ walk_test core base k segments (turns - turn) level f s

module _ (core : List Tagged) (base k segments turns top mark high turn level f s : ℕ) where
  abbrev entered : Bool
  entered = (mscw_in (word_seen_at core f)).entered

  abbrev rest : ℕ → Bool
  rest d = walk_test core base k segments (turns - (turn + 1)) (level_under core level f entered) (f - d) (f - 1)

  abbrev turn_by : Bool → Bool → ℕ → Bool
  turn_by low fits back = low && (fits && under_fits base f back entered rest)

  abbrev fits_here : Bool
  fits_here = record_fits core k segments level f s (mscw_in (word_seen_at core f)) entered

  turn_is : turn < turns → walk_test core base k segments (turns - turn) level f s ≡ turn_by (nat_lt base f) fits_here (mscw_in (word_seen_at core f)).back
  unfolding walk_test
  turn_is low = let next : turns - turn ≡ suc (turns - (turn + 1)) = omega arith in ap (λ n. walk_test core base k segments n level f s) next

  abbrev At : Type 0
  At = IsWalkAt core base k segments turns top mark high turn level f s

  abbrev all : Bool
  all = walk_test core base k segments turns top mark high

  pub walk_low : At → turn < turns → f ≤ base → false ≡ all
  walk_low i low h = sym (i.same ∙ turn_is low ∙ ap (λ b. turn_by b fits_here (mscw_in (word_seen_at core f)).back) (le-ltb base f h))

  seen : At → turn < turns → base < f → (back : ℕ) (b : Bool) → fits_here ≡ b → (mscw_in (word_seen_at core f)).back ≡ back → all ≡ turn_by true b back
  seen i low h back b fits e = grind (arith, turn_is, lt-ltb)

  pub walk_unfit : At → turn < turns → base < f → fits_here ≡ false → false ≡ all
  walk_unfit i low h fits = sym (seen i low h (mscw_in (word_seen_at core f)).back false fits refl)

  back_is : (w : Tagged) (back : ℕ) → w ≡ word_seen_at core f → back ≡ bits_at w 0 14 → (mscw_in (word_seen_at core f)).back ≡ back
  back_is w back e b = sym (b ∙ ap (λ (v : Tagged). bits_at v 0 14) e)

  pub walk_bottom : (w : Tagged) (back bit : ℕ) → At → turn < turns → base < f → fits_here ≡ true → w ≡ word_seen_at core f → back ≡ bits_at w 0 14 → back ≡ 0 → f ≡ base + 1 → bit ≡ bits_at w 46 1 → (bit == 1) ≡ all
  walk_bottom w back bit i low h fits e b z at bits =
      ap (λ n. n == 1) (bits ∙ ap (λ (v : Tagged). bits_at v 46 1) e)
      ∙ sym (seen i low h 0 true fits (back_is w back e b ∙ z) ∙ ap (λ c. c && entered) (eq-eqb f (base + 1) at))

  pub walk_above : (w : Tagged) (back : ℕ) → At → turn < turns → base < f → fits_here ≡ true → w ≡ word_seen_at core f → back ≡ bits_at w 0 14 → back ≡ 0 → f ≢ base + 1 → false ≡ all
  walk_above w back i low h fits e b z at = sym (seen i low h 0 true fits (back_is w back e b ∙ z) ∙ ap (λ c. c && entered) (ne_eqb f (base + 1) at))

  pub walk_far : (w : Tagged) (back : ℕ) → At → turn < turns → base < f → fits_here ≡ true → w ≡ word_seen_at core f → back ≡ bits_at w 0 14 → 0 < back → f ≤ base + back → false ≡ all
  walk_far w zero i low h fits e b some at = absurd (omega (arith, some))
  walk_far w (suc d) i low h fits e b some at = sym (seen i low h (suc d) true fits (back_is w (suc d) e b) ∙ ap (λ c. c && rest (suc d)) (le-ltb (base + suc d) f at))

  walk_on : (w : Tagged) (back : ℕ) → At → turn < turns → base < f → fits_here ≡ true → w ≡ word_seen_at core f → back ≡ bits_at w 0 14 → 0 < back → base + back < f → all ≡ rest back
  walk_on w zero i low h fits e b some at = absurd (omega (arith, some))
  walk_on w (suc d) i low h fits e b some at = seen i low h (suc d) true fits (back_is w (suc d) e b) ∙ ap (λ c. c && rest (suc d)) (lt-ltb (base + suc d) f at)

  pub walk_next : (w : Tagged) (back next : ℕ) → At → turn < turns → base < f → fits_here ≡ true → w ≡ word_seen_at core f → back ≡ bits_at w 0 14 → 0 < back → base + back < f → next ≡ level_under core level f entered
      → IsWalkAt core base k segments turns top mark high (turn + 1) next (f - back) (f - 1)
  walk_next w back next i low h fits e b some at n =
      let small = i.f_small in
      record {
        f_small = omega (arith, small);
        s_small = omega (arith, small);
        same = walk_on w back i low h fits e b some at ∙ ap (λ m. walk_test core base k segments (turns - (turn + 1)) m (f - back) (f - 1)) (sym n);
      }

  pub walk_ends : At → turns ≤ turn → false ≡ all
  unfolding walk_test
  walk_ends i h = let none : turns - turn ≡ 0 = omega (arith, h) in sym (i.same ∙ ap (λ n. walk_test core base k segments n level f s) none)

pub walk_starts : (core : List Tagged) (base k segments turns top mark high : ℕ) → mark < 2 ^ 60 → high < 2 ^ 60 → IsWalkAt core base k segments turns top mark high 0 top mark high
walk_starts core base k segments turns top mark high a b = let all : turns ≡ turns - 0 = omega arith in record { f_small = a; s_small = b; same = ap (λ n. walk_test core base k segments n top mark high) all }
