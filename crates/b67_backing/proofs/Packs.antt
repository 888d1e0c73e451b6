-- Numbers are put into a sector of zeros, one after the other.
use Rattle.std.proofs.Common.{◌≡◌, ℕ, zero, suc, ◌+◌, ◌<◌, ◌≤◌, List, length, replicate, Some, refl, sym, ◌∙◌, ap, arith, ⊎_elim, subst}
use Rattle.std.specs.List.{slice_get}
use Rattle.std.specs.Prelude.{slice_set}
use Rattle.std.proofs.lemmas.List.{length-replicate, length-set}
use Rattle.std.proofs.lemmas.Bool.{cases_lt}
use Rattle.b67_core.proofs.Writes.{slice_get-set_same, slice_get-set_other}
use Rattle.b67_backing.specs.Held.{number_at}
use Rattle.b67_backing.proofs.Fills.{number_at-past}

-- the first n places of a sector have these numbers, from a place of the list on, and the others 0
pub record Packs (numbers : List ℕ) (start n : ℕ) (sector : List ℕ) : Type 0 where
  pub size : length sector ≡ 30
  pub put : (k : ℕ) → k < n → slice_get sector k ≡ Some (number_at numbers (start + k))
  pub blank : (k : ℕ) → n ≤ k → k < 30 → slice_get sector k ≡ Some 0

-- nothing is put yet
pub packs_none : (numbers : List ℕ) (start : ℕ) → Packs numbers start 0 (replicate {A = ℕ} 30 0)
packs_none numbers start = record { size = length-replicate {A = ℕ} 30 0; put = λ k h. absurd (omega (arith, h)); blank = λ k _ h. zero_at 30 k h } where
  zero_at : (n k : ℕ) → k < n → slice_get (replicate {A = ℕ} n 0) k ≡ Some 0
  zero_at zero k h = absurd (omega arith)
  zero_at (suc n) zero h = refl
  zero_at (suc n) (suc k) h = zero_at n k (omega arith)

-- one more is put
pub packs_more : (numbers : List ℕ) (start n number : ℕ) (sector : List ℕ) → Packs numbers start n sector → n < 30 → number ≡ number_at numbers (start + n) → Packs numbers start (n + 1) (slice_set sector n number)
packs_more numbers start n number sector p small is = grind (arith, slice_get-set_same, length-set, slice_get-set_other)

-- what isn't put lies past the end of the list
pub packs_all : (numbers : List ℕ) (start n : ℕ) (sector : List ℕ) → ((k : ℕ) → k < n → slice_get sector k ≡ Some (number_at numbers (start + k))) → ((k : ℕ) → n ≤ k → k < 30 → slice_get sector k ≡ Some 0)
    → ((k : ℕ) → n ≤ k → k < 30 → length numbers ≤ start + k) → (k : ℕ) → k < 30 → slice_get sector k ≡ Some (number_at numbers (start + k))
packs_all numbers start n sector put blank past k h = grind (arith, number_at-past)
