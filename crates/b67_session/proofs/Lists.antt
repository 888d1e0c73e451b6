-- Items of lists by their places, and totals over the items before one.
use Rattle.std.proofs.Common.{◌≡◌, ⊎_elim, List, [], ◌∷◌, map, refl, inl, inr, arith}
use Rattle.std.specs.List.{flat_map}
use Rattle.b67_lemmas.specs.Lists.{Has}
use Rattle.b67_lemmas.proofs.Members.{has_append_cases}

pub has_mapped : {A B : Type 0} (f : A → B) (xs : List A) (y : B) → Has (map f xs) y → (x : A) × Has xs x × (f x ≡ y)
has_mapped f [] y h = absurd h
has_mapped f (x ∷ xs) y (inl e) = (x, inl refl, e)
has_mapped f (x ∷ xs) y (inr h) = let m = has_mapped f xs y h in (m.0, inr m.1, m.2)

pub has_flat : {A B : Type 0} (f : A → List B) (xs : List A) (y : B) → Has (flat_map f xs) y → (x : A) × Has xs x × Has (f x) y
has_flat f [] y h = absurd h
has_flat f (x ∷ xs) y h = grind (arith, has_append_cases, has_flat f xs y)
