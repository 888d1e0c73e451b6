-- The words of core have 48 bits, one after the other.
use Rattle.std.proofs.Common.{◌≡◌, ℕ, suc, ◌+◌, ◌<◌, ◌≤◌, ◌^◌, List, [], ◌∷◌, length, Some, sym, ◌∙◌, ap, subst, arith, inl, inr, ⊎_elim}
use Rattle.std.specs.List.{slice_get}
use Rattle.std.proofs.lemmas.Bool.{cases_lt}
use Rattle.std.proofs.lemmas.Option.{same_Some}
use Rattle.b67_word.specs.Tagged.{Tagged}
use Rattle.b67_lemmas.specs.Lists.{Has}
use Rattle.b67_image_shape.specs.CellWalk.{AreSmall}

abbrev pub SmallBelow : List Tagged → ℕ → Type 0
SmallBelow core at = (n : ℕ) (w : Tagged) → n < at → slice_get core n ≡ Some w → w.bits < 2 ^ 48

pub small_next : (core : List Tagged) (at : ℕ) (v : Tagged) → SmallBelow core at → slice_get core at ≡ Some v → v.bits < 2 ^ 48 → SmallBelow core (at + 1)
small_next core at v below e small n w lt f = grind arith

got : (core : List Tagged) (w : Tagged) → Has core w → (n : ℕ) × (n < length core) × (slice_get core n ≡ Some w)
got [] w h = absurd h
got (x ∷ more) w (inl e) = (0, omega arith, ap Some e)
got (x ∷ more) w (inr h) = let (n, lt, e) = got more w h in (suc n, omega (arith, lt), e)

pub all_small : (core : List Tagged) (at : ℕ) → SmallBelow core at → length core ≤ at → AreSmall core
all_small core at below long w h = let (n, lt, e) = got core w h in below n w (omega (arith, lt, long)) e
