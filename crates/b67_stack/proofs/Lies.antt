-- Words that lie in core by their shapes.
use Rattle.std.proofs.Common.{◌≡◌, ℕ, ◌+◌, ◌<◌, ◌≤◌, List, [], ◌∷◌, ◌++◌, length, Some, refl, ◌∙◌, arith, inl, inr, slice_set, subst, suc, ap, take, drop, ◌-◌}
use Rattle.std.specs.List.{slice_get, slice_range}
use Rattle.b67_word.specs.Tagged.{Tagged}
use Rattle.b67_core.proofs.Writes.{slice_get-set_same, slice_get-set_other}
use Rattle.b67_lemmas.specs.Lists.{Has}
use Rattle.b67_lemmas.proofs.Places.{drop-get}
use Rattle.b67_stack.specs.Shapes.{Shape, LieDownward, LieUpward}

-- words in another core, or by another relation: at each place, what fitted fits
pub Lie-each : (R S : Shape → ℕ → Tagged → Type 0) (old new : List Tagged) (from : ℕ) (xs : List Shape)
    → ((a : Shape) (i : ℕ) (v : Tagged) → Has xs a → from ≤ i → i < from + length xs → slice_get old i ≡ Some v → R a i v → (w : Tagged) × (slice_get new i ≡ Some w) × S a i w)
    → LieDownward R old from xs → LieDownward S new from xs
Lie-each R S old new from [] f l = tt
Lie-each R S old new from (a ∷ more) f l = grind (arith, Lie-each R S old new from more)

-- the same words in another core
pub Lie-same : (R : Shape → ℕ → Tagged → Type 0) (old new : List Tagged) (from : ℕ) (xs : List Shape)
    → ((i : ℕ) → from ≤ i → i < from + length xs → slice_get new i ≡ slice_get old i) → LieDownward R old from xs → LieDownward R new from xs
Lie-same R old new from xs same l = Lie-each R R old new from xs (λ a i v there low high get f. (v, same i low high ∙ get, f)) l

-- a word on top of others
pub Lie-push : (R : Shape → ℕ → Tagged → Type 0) (core : List Tagged) (from i : ℕ) (a : Shape) (w : Tagged) (xs : List Shape) → i ≡ from + length xs → i < length core → R a i w → LieDownward R core from xs → LieDownward R (slice_set core i w) from (a ∷ xs)
Lie-push R core from i a w xs e h r l = grind (arith, slice_get-set_same, Lie-same, slice_get-set_other)

-- what lies under others
pub Lie-under : (R : Shape → ℕ → Tagged → Type 0) (core : List Tagged) (from : ℕ) (xs ys : List Shape) → LieDownward R core from (xs ++ ys) → LieDownward R core from ys
Lie-under R core from [] ys l = l
Lie-under R core from (x ∷ xs) ys l = Lie-under R core from xs ys l.1

-- words whose places are the same
pub Upward-same : (old new : List Tagged) (at : ℕ) (ws : List Tagged) → ((q : ℕ) → at ≤ q → q < at + length ws → slice_get new q ≡ slice_get old q) → LieUpward old at ws → LieUpward new at ws
Upward-same old new at [] same u = tt
Upward-same old new at (w ∷ ws) same u = (same at (omega arith) (omega arith) ∙ u.0, Upward-same old new (at + 1) ws (λ q low high. same q (omega arith) (omega arith)) u.1)

pub upward-take : (core : List Tagged) (at : ℕ) (ws : List Tagged) → LieUpward core at ws → take (length ws) (drop at core) ≡ ws
upward-take core at [] u = refl
upward-take core at (w ∷ ws) u =
    let next : at + 1 ≡ suc at = omega arith in
    let rest : take (length ws) (drop (suc at) core) ≡ ws = subst (λ n. take (length ws) (drop n core) ≡ ws) next (upward-take core (at + 1) ws u.1) in
    rw (drop-get core at w u.0) (ap (λ ys. w ∷ ys) rest)

pub upward-range : (core : List Tagged) (at n : ℕ) (ws : List Tagged) → n ≡ length ws → LieUpward core at ws → slice_range core at (at + n) ≡ ws
upward-range core at n ws e u = grind (arith, upward-take)
