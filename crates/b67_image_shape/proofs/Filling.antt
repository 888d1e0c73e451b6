-- How the table of records is filled: turns of its loops, and what stands in it afterwards.
use Rattle.std.proofs.Common.{◌≡◌, ◌≢◌, ℕ, zero, suc, ◌+◌, ◌-◌, ◌<◌, ◌≤◌, ◌^◌, List, [], ◌∷◌, length, get_or, slice_set, refl, sym, ◌∙◌, ap, arith, ⊎_elim, inl, inr}
use Rattle.std.specs.Prelude.{◌⊎◌}
use Rattle.std.proofs.lemmas.Bool.{cases_eq, cases_lt}
use Rattle.std.proofs.lemmas.List.{length-set, get_or-set_same, get_or-set_other}
use Rattle.b67_word.specs.Tagged.{Tagged, bits_at}
use Rattle.b67_layout_shown.specs.Reading.{word_seen_at}
use Rattle.b67_image_shape.specs.RecordTable.{filled_range, code_by, fill_under, records_down}

-- a place that isn't there
pub set_past : (xs : List ℕ) (i x : ℕ) → length xs ≤ i → xs ≡ slice_set xs i x
set_past [] i x h = refl
set_past (y ∷ more) zero x h = absurd (omega (arith, h))
set_past (y ∷ more) (suc i) x h = ap (λ (zs : List ℕ). y ∷ zs) (set_past more i x (omega (arith, h)))

-- ---- turns of a walk

pub record IsFillingAt (core : List Tagged) (base turns turn f s : ℕ) (xs : List ℕ) (mark high : ℕ) (old : List ℕ) : Type 0 where
  pub f_small : f < 2 ^ 60
  pub s_small : s < 2 ^ 60
  pub same : records_down core base (turns - turn) f s xs ≡ records_down core base turns mark high old

module _ (core : List Tagged) (base turns turn f s : ℕ) (xs : List ℕ) (mark high : ℕ) (old : List ℕ) where
  abbrev deeper : ℕ → List ℕ → List ℕ
  deeper d ys = records_down core base (turns - (turn + 1)) (f - d) (f - 1) ys

  turn_is : (w : Tagged) → w ≡ word_seen_at core f → turn < turns → records_down core base (turns - turn) f s xs ≡ fill_under (bits_at w 0 14) deeper (filled_range (code_by base f w) f (s + 1 - f) xs)
  unfolding records_down
  turn_is w is low = grind arith

  pub fill_bottom : (w : Tagged) (ys : List ℕ) → IsFillingAt core base turns turn f s xs mark high old → turn < turns → w ≡ word_seen_at core f → bits_at w 0 14 ≡ 0 → ys ≡ filled_range (code_by base f w) f (s + 1 - f) xs → ys ≡ records_down core base turns mark high old
  fill_bottom w ys i low is back new =
      new ∙ sym (ap (λ b. fill_under b deeper (filled_range (code_by base f w) f (s + 1 - f) xs)) back) ∙ sym (turn_is w is low) ∙ i.same

  pub fill_next : (w : Tagged) (back : ℕ) (ys : List ℕ) → IsFillingAt core base turns turn f s xs mark high old → turn < turns → w ≡ word_seen_at core f → back ≡ bits_at w 0 14 → 0 < back → ys ≡ filled_range (code_by base f w) f (s + 1 - f) xs
      → (f2 s2 : ℕ) → f2 ≡ f - back → s2 ≡ f - 1 → IsFillingAt core base turns (turn + 1) f2 s2 ys mark high old
  fill_next w zero ys i low is e some new f2 s2 fe se = absurd (omega (arith, some))
  fill_next w (suc d) ys i low is e some new f2 s2 fe se =
      let small = i.f_small in
      record {
        f_small = omega (arith, small, fe);
        s_small = omega (arith, small, se);
        same = ap (λ m. records_down core base (turns - (turn + 1)) m s2 ys) fe ∙ ap (λ m. records_down core base (turns - (turn + 1)) (f - suc d) m ys) se ∙ ap (deeper (suc d)) new ∙ ap (λ b. fill_under b deeper (filled_range (code_by base f w) f (s + 1 - f) xs)) e ∙ sym (turn_is w is low) ∙ i.same;
      }

  pub fill_ends : IsFillingAt core base turns turn f s xs mark high old → turns ≤ turn → xs ≡ records_down core base turns mark high old
  unfolding records_down
  fill_ends i h = let none : turns - turn ≡ 0 = omega (arith, h) in sym (ap (λ n. records_down core base n f s xs) none) ∙ i.same

pub fill_starts : (core : List Tagged) (base turns mark high : ℕ) (old : List ℕ) → mark < 2 ^ 60 → high < 2 ^ 60 → IsFillingAt core base turns 0 mark high old mark high old
fill_starts core base turns mark high old f s = let all : turns - 0 ≡ turns = omega arith in record { f_small = f; s_small = s; same = ap (λ n. records_down core base n mark high old) all }

-- ---- what is filled

pub filled_long : (value from n : ℕ) (xs : List ℕ) → length (filled_range value from n xs) ≡ length xs
filled_long value from zero xs = refl
filled_long value from (suc n) xs = filled_long value from n (slice_set xs (from + n) value) ∙ length-set xs (from + n) value

pub filled_out : (value from n : ℕ) (xs : List ℕ) (i : ℕ) → (i < from) ⊎ (from + n ≤ i) → get_or (filled_range value from n xs) i 0 ≡ get_or xs i 0
filled_out value from zero xs i h = refl
filled_out value from (suc n) xs i h = grind (arith, slice_set, get_or-set_other, filled_out value from n (slice_set xs (from + n) value) i)

pub filled_in : (value from n : ℕ) (xs : List ℕ) (i : ℕ) → from ≤ i → i < from + n → i < length xs → get_or (filled_range value from n xs) i 0 ≡ value
filled_in value from zero xs i low high inside = absurd (omega (arith, low, high))
filled_in value from (suc n) xs i low high inside = grind (arith, ⊎_elim, filled_out, slice_set, get_or, get_or-set_same, length-set, cases_eq, cases_lt, filled_in value from n (slice_set xs (from + n) value) i low)
