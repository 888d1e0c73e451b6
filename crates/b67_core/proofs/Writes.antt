-- What a write leaves.
use Rattle.std.proofs.Common.{◌≡◌, ◌≢◌, ℕ, zero, suc, ◌<◌, List, [], ◌∷◌, length, Some, refl, arith, ap, slice_set}
use Rattle.std.specs.List.{slice_get}

pub slice_get-set_same : {A : Type 0} (xs : List A) (i : ℕ) (v : A) → i < length xs → slice_get (slice_set xs i v) i ≡ Some v
slice_get-set_same [] i v h = absurd (omega arith)
slice_get-set_same (x ∷ xs) zero v h = refl
slice_get-set_same (x ∷ xs) (suc i) v h = slice_get-set_same xs i v (omega arith)

pub slice_get-set_other : {A : Type 0} (xs : List A) (i k : ℕ) (v : A) → k ≢ i → slice_get (slice_set xs i v) k ≡ slice_get xs k
slice_get-set_other [] i k v h = refl
slice_get-set_other (x ∷ xs) zero zero v h = absurd (h refl)
slice_get-set_other (x ∷ xs) zero (suc k) v h = refl
slice_get-set_other (x ∷ xs) (suc i) zero v h = refl
slice_get-set_other (x ∷ xs) (suc i) (suc k) v h = slice_get-set_other xs i k v (λ e. h (ap suc e))
