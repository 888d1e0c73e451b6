-- Sums over the items before a place, and sums of std as totals.
use Rattle.std.proofs.Common.{◌≡◌, ℕ, List, [], ◌∷◌, refl, arith, ◌≤◌, inl, inr, ◌+◌, sym, subst, zero, suc, ◌<◌, take, Some, ap}
use Rattle.std.specs.List.{sum_by, slice_get}
use Rattle.std.proofs.lemmas.List.Sums.{sum_by-cons}
use Rattle.std.proofs.lemmas.Option.{same_Some, none-some}
use Rattle.b67_lemmas.specs.Lists.{total, Has}

pub sum_total : {A : Type 0} (f : A → ℕ) (xs : List A) → sum_by f xs ≡ total f xs
sum_total f [] = refl
sum_total f (x ∷ xs) = omega (arith, sum_by-cons f x xs, sum_total f xs)

-- totals that differ by so much at one item
pub total_le : {A : Type 0} (f g : A → ℕ) (xs : List A) → ((x : A) → Has xs x → f x ≤ g x) → total f xs ≤ total g xs
total_le f g [] each = omega arith
total_le f g (x ∷ xs) each = omega (arith, each x (inl refl), total_le f g xs (λ y k. each y (inr k)))

pub total_gap : {A : Type 0} (f g : A → ℕ) (xs : List A) (x : A) (w : ℕ) → ((y : A) → Has xs y → f y ≤ g y) → Has xs x → f x + w ≤ g x → total f xs + w ≤ total g xs
total_gap f g [] x w each k e = absurd k
total_gap f g (y ∷ ys) x w each (inl same) e =
    let here : f y + w ≤ g y = subst (λ z. f z + w ≤ g z) (sym same) e in
    omega (arith, here, total_le f g ys (λ z m. each z (inr m)))
total_gap f g (y ∷ ys) x w each (inr k) e = omega (arith, each y (inl refl), total_gap f g ys x w (λ z m. each z (inr m)) k e)

pub total_plus : {A : Type 0} (f g : A → ℕ) (xs : List A) → total (λ x. f x + g x) xs ≡ total f xs + total g xs
total_plus f g [] = refl
total_plus f g (x ∷ xs) = omega (arith, total_plus f g xs)

pub total_before : {A : Type 0} (f : A → ℕ) (xs : List A) (k l : ℕ) (x : A) → slice_get xs k ≡ Some x → k < l → total f (take k xs) + f x ≤ total f (take l xs)
total_before f [] k l x e h = absurd (none-some x e)
total_before f (y ∷ xs) k zero x e h = absurd (omega arith)
total_before f (y ∷ xs) zero (suc l) x e h = omega (arith, ap f (same_Some y x e))
total_before f (y ∷ xs) (suc k) (suc l) x e h = omega (arith, total_before f xs k l x e (omega arith))

pub total_within : {A : Type 0} (f : A → ℕ) (xs : List A) (k : ℕ) (x : A) → slice_get xs k ≡ Some x → total f (take k xs) + f x ≤ total f xs
total_within f [] k x e = absurd (none-some x e)
total_within f (y ∷ xs) zero x e = omega (arith, ap f (same_Some y x e))
total_within f (y ∷ xs) (suc k) x e = omega (arith, total_within f xs k x e)
