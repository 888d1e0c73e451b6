-- Lists whose items have numbers: look-ups, and one item changed.
use Rattle.std.proofs.Common.{◌≡◌, ℕ, true, eqb, List, [], ◌∷◌, Some, refl, inl, inr, ◌≢◌, false, cond, sym, ap, ◌∙◌, map, ◌==◌, ⊎_elim}
use Rattle.std.proofs.lemmas.Bool.Decides.{eqb_tells}
use Rattle.std.specs.List.{AllByRecursion}
use Rattle.std.specs.Prelude.{◌==◌}
use Rattle.std.proofs.lemmas.Bool.{cases_Bool}
use Rattle.std.proofs.lemmas.Option.{same_Some}
use Rattle.b67_lemmas.specs.Keyed.{keyed, change_keyed}
use Rattle.b67_lemmas.specs.Lists.{Has}

-- the changed item is found in its place
pub keyed-change_same : {A : Type 0} (key : A → ℕ) (n : ℕ) (f : A → A) → ((x : A) → key (f x) ≡ key x) → (xs : List A) (x : A) → keyed key n xs ≡ Some x → keyed key n (change_keyed key n f xs) ≡ Some (f x)
keyed-change_same key n f keeps [] x e = cc
keyed-change_same key n f keeps (y ∷ ys) x e =
    elim (eqb_tells (key y) n) [
      | inl t ↦ let at : Some y ≡ Some x = rw t.0 at e in
          let same : y ≡ x = cc in
          let k : eqb (key (f y)) n ≡ true = rw (keeps y) t.0 in
          rw (t.0, k, same) refl
      | inr t ↦ let at : keyed key n ys ≡ Some x = rw t.0 at e in
          rw (t.0, t.0) (keyed-change_same key n f keeps ys x at)
    ]

-- the items of other numbers stay
pub keyed-change_other : {A : Type 0} (key : A → ℕ) (m n : ℕ) (f : A → A) → ((x : A) → key (f x) ≡ key x) → m ≢ n → (xs : List A) → keyed key m (change_keyed key n f xs) ≡ keyed key m xs
keyed-change_other key m n f keeps ne [] = refl
keyed-change_other key m n f keeps ne (y ∷ ys) =
    elim (eqb_tells (key y) n) [
      | inl t ↦
          elim (eqb_tells (key y) m) [
            | inl u ↦ absurd (ne (sym u.1 ∙ t.1))
            | inr u ↦ let k : eqb (key (f y)) m ≡ false = rw (keeps y) u.0 in rw (t.0, k, u.0) refl
          ]
      | inr t ↦ rw t.0 (ap (λ r. cond (eqb (key y) m) (Some y) r) (keyed-change_other key m n f keeps ne ys))
    ]

pub change_is : {A : Type 0} (key : A → ℕ) (n : ℕ) (f : A → A) (old : A) (xs : List A) → keyed key n xs ≡ Some old → change_keyed key n f xs ≡ change_keyed key n (λ y. f old) xs
change_is key n f old [] e = refl
change_is key n f old (y ∷ ys) e = elim (eqb_tells (key y) n) [
  | inl t ↦ let at : Some y ≡ Some old = rw t.0 at e in
      let same : y ≡ old = cc in
      rw t.0 (ap (λ z. f z ∷ ys) same)
  | inr t ↦ rw t.0 (ap (λ zs. y ∷ zs) (change_is key n f old ys (rw t.0 at e)))
]

pub all_change : {A : Type 0} (P : A → Type 0) (key : A → ℕ) (n : ℕ) (new : A) (xs : List A) → AllByRecursion P xs → P new → AllByRecursion P (change_keyed key n (λ y. new) xs)
all_change P key n new [] a q = tt
all_change P key n new (y ∷ ys) a q = elim (eqb_tells (key y) n) [
  | inl t ↦ rw t.0 (q, a.1)
  | inr t ↦ rw t.0 (a.0, all_change P key n new ys a.1 q)
]

-- an item that is changed to itself
pub change_same : {A : Type 0} (key : A → ℕ) (n : ℕ) (f : A → A) (xs : List A) (x : A) → keyed key n xs ≡ Some x → f x ≡ x → change_keyed key n f xs ≡ xs
change_same key n f [] x e same = refl
change_same key n f (y ∷ ys) x e same = elim (cases_Bool (key y == n)) [
  | inl q ↦ let is : y ≡ x = same_Some y x (rw q at e) in rw q (ap (λ z. z ∷ ys) (ap f is ∙ same ∙ sym is))
  | inr q ↦ rw q (ap (λ zs. y ∷ zs) (change_same key n f ys x (rw q at e) same))
]

pub change_map : {A : Type 0} (key : A → ℕ) (f : A → A) (n : ℕ) (a a' : A) (xs : List A) → ((x : A) → key (f x) ≡ key x) → f a ≡ a' → change_keyed key n (λ y. a') (map f xs) ≡ map f (change_keyed key n (λ y. a) xs)
change_map key f n a a' [] keep e = refl
change_map key f n a a' (x ∷ xs) keep e = ⊎_elim
    (λ (t : (key x == n) ≡ true). let u : (key (f x) == n) ≡ true = ap (λ k. k == n) (keep x) ∙ t in rw t (rw u (ap (λ z. z ∷ map f xs) (sym e))))
    (λ (t : (key x == n) ≡ false). let u : (key (f x) == n) ≡ false = ap (λ k. k == n) (keep x) ∙ t in rw t (rw u (ap (λ zs. f x ∷ zs) (change_map key f n a a' xs keep e))))
    (cases_Bool (key x == n))

pub changed_there : {A : Type 0} (key : A → ℕ) (n : ℕ) (f : A → A) (xs : List A) (x : A) → keyed key n xs ≡ Some x → Has (change_keyed key n f xs) (f x)
changed_there key n f [] x e = absurd (let z : ⊥ = cc in z)
changed_there key n f (y ∷ ys) x e = ⊎_elim
    (λ (t : (key y == n) ≡ true). let same : y ≡ x = same_Some y x (rw t at e) in rw t (inl (ap f same)))
    (λ (t : (key y == n) ≡ false). let at : keyed key n ys ≡ Some x = rw t at e in rw t (inr (changed_there key n f ys x at)))
    (cases_Bool (key y == n))
