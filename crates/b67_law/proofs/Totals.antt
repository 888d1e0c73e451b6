-- Sums over the jobs, and jobs of which one changes.
use Rattle.std.proofs.Common.{◌≡◌, ℕ, ◌+◌, ◌-◌, ◌*◌, ◌≤◌, max, List, [], ◌∷◌, length, ap, inl, inr, arith}
use Rattle.std.specs.List.{AllByRecursion}
use Rattle.b67_lemmas.specs.Lists.{Has, total}

total_fifteen : {A : Type 0} (w : A → ℕ) (xs : List A) → AllByRecursion (λ x. w x ≤ 15) xs → total w xs ≤ 15 * length xs
total_fifteen w [] a = omega arith
total_fifteen w (x ∷ xs) a = omega (arith, a.0, total_fifteen w xs a.1)

-- the others beside one have at most fifteen each
pub others_fifteen : {A : Type 0} (w : A → ℕ) (xs : List A) (old : A) → AllByRecursion (λ x. w x ≤ 15) xs → Has xs old → total w xs + 15 ≤ w old + 15 * length xs
others_fifteen w [] old a h = absurd h
others_fifteen w (x ∷ xs) old a h = grind (arith, total_fifteen, others_fifteen w xs old a.1)

pub peak_low_of : (p t j o n a : ℕ) → j + o ≡ t + n → o ≤ t → n ≤ a → j ≤ max p (t - o + a)
peak_low_of p t j o n a e le few = omega (arith, e, le, few)

pub peak_high_of : (p t o a l : ℕ) → p ≤ 120 → t + 15 ≤ o + 15 * l → o ≤ t → a ≤ 15 → l ≤ 8 → max p (t - o + a) ≤ 120
peak_high_of p t o a l high others le few jobs = omega (arith, high, others, le, few, jobs)
