-- Items of lists by their places.
use Rattle.std.proofs.Common.{◌≡◌, ℕ, zero, suc, ◌<◌, List, [], ◌∷◌, length, Some, refl, arith, ap, inl, inr, map, sym, ◌∙◌, slice_set, drop, ◌++◌, take, ◌==◌, ⊎_elim}
use Rattle.std.specs.List.{slice_get, refill}
use Rattle.std.proofs.lemmas.Option.{same_Some, none-some}
use Rattle.std.proofs.lemmas.Bool.{cases_eq, eq-eqb, ne_eqb}
use Rattle.b67_lemmas.specs.Lists.{Has}

pub get_within : {A : Type 0} (xs : List A) (i : ℕ) → i < length xs → (x : A) × (slice_get xs i ≡ Some x)
get_within [] i h = absurd (omega arith)
get_within (x ∷ xs) zero h = (x, refl)
get_within (x ∷ xs) (suc i) h = get_within xs i (omega arith)

pub has_at : {A : Type 0} (xs : List A) (x : A) → Has xs x → (i : ℕ) × (slice_get xs i ≡ Some x)
has_at [] x h = absurd h
has_at (y ∷ ys) x (inl e) = (zero, ap Some e)
has_at (y ∷ ys) x (inr h) = let (i, at) = has_at ys x h in (suc i, at)

-- an item gives way to one with the same number
pub same_mapped : {A B : Type 0} (f : A → B) (xs : List A) (i : ℕ) (x y : A) → slice_get xs i ≡ Some x → f y ≡ f x → map f (slice_set xs i y) ≡ map f xs
same_mapped f [] i x y e s = absurd (none-some x e)
same_mapped f (z ∷ zs) zero x y e s = ap (λ b. b ∷ map f zs) (s ∙ ap f (sym (same_Some z x e)))
same_mapped f (z ∷ zs) (suc i) x y e s = ap (λ bs. f z ∷ bs) (same_mapped f zs i x y e s)

pub map-slice_set : {A B : Type 0} (f : A → B) (xs : List A) (i : ℕ) (y : A) → map f (slice_set xs i y) ≡ slice_set (map f xs) i (f y)
map-slice_set f [] i y = refl
map-slice_set f (z ∷ zs) zero y = refl
map-slice_set f (z ∷ zs) (suc i) y = ap (λ bs. f z ∷ bs) (map-slice_set f zs i y)

pub mapped_at : {A B : Type 0} (f : A → B) (xs : List A) (i : ℕ) (y : B) → slice_get (map f xs) i ≡ Some y → (x : A) × (slice_get xs i ≡ Some x) × (f x ≡ y)
mapped_at f [] i y e = absurd (none-some y e)
mapped_at f (x ∷ xs) zero y e = (x, refl, same_Some (f x) y e)
mapped_at f (x ∷ xs) (suc i) y e = mapped_at f xs i y e

pub at_mapped : {A B : Type 0} (f : A → B) (xs : List A) (i : ℕ) (x : A) → slice_get xs i ≡ Some x → slice_get (map f xs) i ≡ Some (f x)
at_mapped f [] i x e = absurd (none-some x e)
at_mapped f (y ∷ ys) zero x e = ap Some (ap f (same_Some y x e))
at_mapped f (y ∷ ys) (suc i) x e = at_mapped f ys i x e

-- words that lie from an address on are read from there
pub drop-get : {A : Type 0} (xs : List A) (i : ℕ) (v : A) → slice_get xs i ≡ Some v → drop i xs ≡ v ∷ drop (suc i) xs
drop-get [] i v e = absurd (none-some v e)
drop-get (x ∷ xs) zero v e = ap (λ y. y ∷ xs) (same_Some x v e)
drop-get (x ∷ xs) (suc i) v e = drop-get xs i v e

-- a list that was lent and comes back with its length
pub refill_whole : {A : Type 0} (xs ws : List A) → length ws ≡ length xs → refill (length xs) xs ws ≡ ws
refill_whole [] [] e = refl
refill_whole [] (w ∷ ws) e = absurd (omega (arith, e))
refill_whole (x ∷ xs) [] e = absurd (omega (arith, e))
refill_whole (x ∷ xs) (w ∷ ws) e = ap (λ r. w ∷ r) (refill_whole xs ws (omega (arith, e)))

-- a list that was lent and comes back with its length
pub came_back : {A : Type 0} (xs ws : List A) → length ws ≡ length xs → take (length xs) (ws ++ drop (length ws) xs) ≡ ws
came_back [] [] e = refl
came_back [] (w ∷ ws) e = absurd (omega (arith, e))
came_back (x ∷ xs) [] e = absurd (omega (arith, e))
came_back (x ∷ xs) (w ∷ ws) e = ap (λ r. w ∷ r) (came_back xs ws (omega (arith, e)))

-- an item put where it stands
pub put_back : {A : Type 0} (xs : List A) (i : ℕ) (x : A) → slice_get xs i ≡ Some x → slice_set xs i x ≡ xs
put_back [] i x e = absurd (none-some x e)
put_back (y ∷ ys) zero x e = ap (λ z. z ∷ ys) (sym (same_Some y x e))
put_back (y ∷ ys) (suc i) x e = ap (λ zs. y ∷ zs) (put_back ys i x e)

-- a word that is written and written back
pub set-back : {A : Type 0} (xs : List A) (i : ℕ) (v w : A) → slice_get xs i ≡ Some w → slice_set (slice_set xs i v) i w ≡ xs
set-back [] i v w e = cc
set-back (x ∷ xs) zero v w e = ap (λ y. y ∷ xs) (sym (same_Some x w e))
set-back (x ∷ xs) (suc i) v w e = ap (λ ys. x ∷ ys) (set-back xs i v w e)

pub same_test : (i n : ℕ) → (i == n) ≡ (suc i == suc n)
same_test i n = ⊎_elim
    (λ (e : i ≡ n). eq-eqb i n e ∙ sym (eq-eqb (suc i) (suc n) (ap suc e)))
    (λ (e : i ≡ n → ⊥). ne_eqb i n e ∙ sym (ne_eqb (suc i) (suc n) (λ z. e (omega (arith, z)))))
    (cases_eq i n)
