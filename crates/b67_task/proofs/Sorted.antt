-- Sorted lists of tasks: there is one with given members, and an item has one place in it.
use Rattle.std.proofs.Common.{◌≡◌, ◌≢◌, ℕ, zero, suc, ◌<◌, ◌≤◌, List, [], ◌∷◌, ◌++◌, take, drop, Some, refl, sym, ◌∙◌, ap, arith, inl, inr, ⊎_elim, subst}
use Rattle.std.specs.List.{slice_get}
use Rattle.b67_lemmas.specs.Lists.{Has}
use Rattle.b67_lemmas.proofs.Members.{has_append_cases}
use Rattle.b67_task.specs.declared.families.Deep.{Deep}
use Rattle.b67_task.specs.Family.{EndsBefore, AreSorted}

pub before_both : (a b : Deep) → EndsBefore a b → EndsBefore b a → ⊥
before_both a b h e = grind arith

pub before_then : (a b c : Deep) → EndsBefore a b → EndsBefore b c → EndsBefore a c
before_then a b c h e = grind arith

-- of two that aren't the same one comes first
pub before_or : (a b : Deep) → (EndsBefore a b → ⊥) → a ≢ b → EndsBefore b a
before_or a b later ne = grind arith

pub before_self : (a : Deep) → EndsBefore a a → ⊥
before_self a b = before_both a a b b

-- two sorted lists with the same members are the same
pub sorted_one : (xs ys : List Deep) → AreSorted xs → AreSorted ys → ((d : Deep) → Has xs d → Has ys d) → ((d : Deep) → Has ys d → Has xs d) → xs ≡ ys
sorted_one [] [] sx sy there back = refl
sorted_one [] (y ∷ ys) sx sy there back = absurd (back y (inl refl))
sorted_one (x ∷ xs) [] sx sy there back = absurd (there x (inl refl))
sorted_one (x ∷ xs) (y ∷ ys) sx sy there back =
    let same : x ≡ y = elim (there x (inl refl)) [
      | inl e ↦ sym e
      | inr i ↦ elim (back y (inl refl)) [
        | inl e ↦ e
        | inr k ↦ absurd (before_both y x (sy.0 x i) (sx.0 y k))
      ]
    ] in
    let rest : xs ≡ ys = sorted_one xs ys sx.1 sy.1
    (λ d i. elim (there d (inr i)) [ inl e ↦ absurd (before_self d (subst (λ (z : Deep). EndsBefore z d) (same ∙ e) (sx.0 d i))) | inr k ↦ k ])
    (λ d i. elim (back d (inr i)) [ inl e ↦ absurd (before_self d (subst (λ (z : Deep). EndsBefore z d) (sym same ∙ e) (sy.0 d i))) | inr k ↦ k ]) in
    ap (λ (z : Deep). z ∷ xs) same ∙ ap (λ (zs : List Deep). y ∷ zs) rest

-- a sorted list before another, each item of it before each of the other's
pub sorted_append : (xs ys : List Deep) → AreSorted xs → AreSorted ys → ((a b : Deep) → Has xs a → Has ys b → EndsBefore a b) → AreSorted (xs ++ ys)
sorted_append [] ys sx sy apart = sy
sorted_append (x ∷ xs) ys sx sy apart = (
  λ e i. ⊎_elim (λ (l : Has xs e). sx.0 e l) (λ (r : Has ys e). apart x e (inl refl) r) (has_append_cases xs ys e i),
  sorted_append xs ys sx.1 sy (λ a b ia ib. apart a b (inr ia) ib),
)

sorted_take : (n : ℕ) (xs : List Deep) → AreSorted xs → AreSorted (take n xs)
sorted_take zero xs s = tt
sorted_take (suc n) [] s = tt
sorted_take (suc n) (x ∷ xs) s = (λ e i. s.0 e (take_has n xs e i), sorted_take n xs s.1) where
  take_has : (n : ℕ) (xs : List Deep) (e : Deep) → Has (take n xs) e → Has xs e
  take_has zero xs e i = absurd i
  take_has (suc n) [] e i = absurd i
  take_has (suc n) (x ∷ xs) e (inl same) = inl same
  take_has (suc n) (x ∷ xs) e (inr i) = inr (take_has n xs e i)

sorted_drop : (n : ℕ) (xs : List Deep) → AreSorted xs → AreSorted (drop n xs)
sorted_drop zero xs s = s
sorted_drop (suc n) [] s = tt
sorted_drop (suc n) (x ∷ xs) s = sorted_drop n xs s.1

-- members by their places
take_at : {A : Type 0} (n : ℕ) (xs : List A) (e : A) → Has (take n xs) e → (i : ℕ) × (i < n) × (slice_get xs i ≡ Some e)
take_at zero xs e h = absurd h
take_at (suc n) [] e h = absurd h
take_at (suc n) (x ∷ xs) e (inl same) = (zero, omega arith, ap Some same)
take_at (suc n) (x ∷ xs) e (inr h) = let (i, low, at) = take_at n xs e h in (suc i, omega (arith, low), at)

drop_at : {A : Type 0} (n : ℕ) (xs : List A) (e : A) → Has (drop n xs) e → (i : ℕ) × (n ≤ i) × (slice_get xs i ≡ Some e)
drop_at zero [] e h = absurd h
drop_at zero (x ∷ xs) e (inl same) = (zero, omega arith, ap Some same)
drop_at zero (x ∷ xs) e (inr h) = let (i, low, at) = drop_at zero xs e h in (suc i, omega arith, at)
drop_at (suc n) [] e h = absurd h
drop_at (suc n) (x ∷ xs) e h = let (i, low, at) = drop_at n xs e h in (suc i, omega (arith, low), at)

-- an item put where it belongs
pub sorted_put : (xs : List Deep) (n : ℕ) (item : Deep) → AreSorted xs → ((i : ℕ) (d : Deep) → i < n → slice_get xs i ≡ Some d → EndsBefore d item) → ((i : ℕ) (d : Deep) → n ≤ i → slice_get xs i ≡ Some d → EndsBefore item d)
    → AreSorted (take n xs ++ item ∷ drop n xs)
sorted_put xs n item s before behind =
    sorted_append (take n xs) (item ∷ drop n xs) (sorted_take n xs s)
    (λ e i. (let (k, low, at) = drop_at n xs e i in behind k e low at), sorted_drop n xs s)
    (λ a b ia ib.
    let (k, low, at) = take_at n xs a ia in
    let first : EndsBefore a item = before k a low at in
    ⊎_elim
    (λ (e : item ≡ b). subst (EndsBefore a) e first)
    (λ (i : Has (drop n xs) b). (let (q, high, there) = drop_at n xs b i in before_then a item b first (behind q b high there)))
    ib)
