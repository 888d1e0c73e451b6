-- Lists of which each item meets a condition, and the digits of a number among them.
use Rattle.std.proofs.Common.{◌≤◌, ◌<◌, ◌+◌, ◌/◌, ◌%◌, ℕ, zero, suc, false, List, [], ◌∷◌, ◌++◌, decimal, ◌∙◌, arith}
use Rattle.std.specs.Prelude.{◌==◌}
use Rattle.std.specs.List.{AllByRecursion}
use Rattle.std.specs.Fmt.{digits, digits_onto}
use Rattle.std.proofs.lemmas.Bool.{false≢true}

pub all_joined : {A : Type 0} (P : A → Type 0) (xs ys : List A) → AllByRecursion P xs → AllByRecursion P ys → AllByRecursion P (xs ++ ys)
all_joined P [] ys p q = q
all_joined P (x ∷ xs) ys p q = (p.0, all_joined P xs ys p.1 q)

module _ (P : ℕ → Type 0) (each : (b : ℕ) → 48 ≤ b → b ≤ 57 → P b) where
  onto : (k n : ℕ) (acc : List ℕ) → AllByRecursion P acc → AllByRecursion P (digits_onto k 10 false n acc)
  onto zero n acc p = p
  onto (suc k) n acc p = grind (arith, onto k)

  -- each digit of a number's numeral
  pub numeral_all : (n : ℕ) → AllByRecursion P (decimal n)
  unfolding digits
  numeral_all n = onto 64 n [] tt
