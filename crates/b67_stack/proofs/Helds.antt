-- How objects are held, where one is held otherwise.
use Rattle.std.proofs.Common.{◌≡◌, ◌≢◌, ℕ, refl}
use Rattle.std.proofs.lemmas.Bool.{eq-eqb, ne_eqb}
use Rattle.b67_stack.specs.Common.{Location, Locations, with_held}

pub held-other : (held : Locations) (home : ℕ) (h : Location) (q : ℕ) → q ≢ home → with_held held home h q ≡ held q
held-other held home h q n = rw (ne_eqb q home n) refl

pub held-same : (held : Locations) (home : ℕ) (h : Location) → with_held held home h home ≡ h
held-same held home h = rw (eq-eqb home home refl) refl
