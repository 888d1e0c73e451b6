-- What holds of all items of a list, joined, turned and mapped.
use Rattle.std.proofs.Common.{List, [], ◌∷◌, ◌++◌, reverse, sym, subst, map, ◌≡◌, ℕ, ◌<◌, ap, ◌∙◌}
use Rattle.std.specs.List.{AllByRecursion}
use Rattle.std.proofs.lemmas.List.{map-append}
use Rattle.b67_lemmas.proofs.Members.{reverse_cons}
use Rattle.b67_lemmas.specs.Lists.{Falls}

pub all_append : {A : Type 0} (P : A → Type 0) (xs ys : List A) → AllByRecursion P xs → AllByRecursion P ys → AllByRecursion P (xs ++ ys)
all_append P [] ys h k = k
all_append P (x ∷ xs) ys h k = (h.0, all_append P xs ys h.1 k)

pub all_reverse : {A : Type 0} (P : A → Type 0) (xs : List A) → AllByRecursion P xs → AllByRecursion P (reverse xs)
all_reverse P [] h = tt
all_reverse P (x ∷ xs) h = subst (λ ys. AllByRecursion P ys) (sym (reverse_cons x xs)) (all_append P (reverse xs) (x ∷ []) (all_reverse P xs h.1) (h.0, tt))

pub all_by : {A : Type 0} (P Q : A → Type 0) → ((x : A) → P x → Q x) → (xs : List A) → AllByRecursion P xs → AllByRecursion Q xs
all_by P Q each [] h = tt
all_by P Q each (x ∷ xs) h = (each x h.0, all_by P Q each xs h.1)

pub all_map : {A B : Type 0} (f : A → B) (P : B → Type 0) (xs : List A) → AllByRecursion (λ x. P (f x)) xs → AllByRecursion P (map f xs)
all_map f P [] h = tt
all_map f P (x ∷ xs) h = (h.0, all_map f P xs h.1)

-- one more number at the end, below all of them
pub falls_last : (bound n : ℕ) (xs : List ℕ) → n < bound → Falls bound xs → AllByRecursion (λ m. n < m) xs → Falls bound (xs ++ n ∷ [])
falls_last bound n [] lt h above = (lt, tt)
falls_last bound n (x ∷ xs) lt h above = (h.0, falls_last x n xs above.0 h.1 above.1)

pub falls_turned : {A : Type 0} (f : A → ℕ) (bound : ℕ) (x : A) (xs : List A) → f x < bound → Falls bound (map f (reverse xs)) → AllByRecursion (λ y. f x < f y) xs →
    Falls bound (map f (reverse (x ∷ xs)))
falls_turned f bound x xs lt h above =
    let same : map f (reverse (x ∷ xs)) ≡ map f (reverse xs) ++ f x ∷ [] = ap (map f) (reverse_cons x xs) ∙ map-append f (reverse xs) (x ∷ []) in
    subst (λ ns. Falls bound ns) (sym same)
    (falls_last bound (f x) (map f (reverse xs)) lt h (all_map f (λ m. f x < m) (reverse xs) (all_reverse (λ y. f x < f y) xs above)))
