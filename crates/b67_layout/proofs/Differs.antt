-- Items of a list by their places.
use Rattle.std.proofs.Common.{◌≡◌, ℕ, zero, suc, List, [], ◌∷◌, map, Some, refl, sym, ◌∙◌, ap, inl, inr, subst}
use Rattle.std.specs.List.{slice_get}
use Rattle.std.proofs.lemmas.Option.{same_Some, none-some}
use Rattle.b67_lemmas.specs.Lists.{Has}
use Rattle.b67_layout.specs.Rows.{Differ}

has_mapped : {A : Type 0} (f : A → ℕ) (xs : List A) (i : ℕ) (x : A) → slice_get xs i ≡ Some x → Has (map f xs) (f x)
has_mapped f [] i x e = absurd (none-some x e)
has_mapped f (y ∷ ys) zero x e = inl (ap f (same_Some y x e))
has_mapped f (y ∷ ys) (suc i) x e = inr (has_mapped f ys i x e)

-- no number stands at two places
pub differ_at : {A : Type 0} (f : A → ℕ) (xs : List A) (i j : ℕ) (a b : A) → Differ (map f xs) → slice_get xs i ≡ Some a → slice_get xs j ≡ Some b → f a ≡ f b → i ≡ j
differ_at f [] i j a b d ea eb e = absurd (none-some a ea)
differ_at f (y ∷ ys) zero zero a b d ea eb e = refl
differ_at f (y ∷ ys) zero (suc j) a b d ea eb e = absurd (d.0 (subst (λ (n : ℕ). Has (map f ys) n) (sym e ∙ ap f (sym (same_Some y a ea))) (has_mapped f ys j b eb)))
differ_at f (y ∷ ys) (suc i) zero a b d ea eb e = absurd (d.0 (subst (λ (n : ℕ). Has (map f ys) n) (e ∙ ap f (sym (same_Some y b eb))) (has_mapped f ys i a ea)))
differ_at f (y ∷ ys) (suc i) (suc j) a b d ea eb e = ap suc (differ_at f ys i j a b d.1 ea eb e)
