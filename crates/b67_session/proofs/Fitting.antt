-- The core that the steps of a slice need, the halt before which they are made, and their whole texts.
use Rattle.std.proofs.Common.{◌≡◌, ◌≢◌, ℕ, zero, suc, ◌+◌, ◌<◌, ◌≤◌, Option, Some, inl, inr, refl, arith}
use Rattle.std.specs.Prelude.{◌⊎◌}
use Rattle.b67_model.specs.Run.{after}
use Rattle.b67_model.specs.Schedule.{Session}
use Rattle.b67_task.specs.declared.tables.Machine.{Machine}
use Rattle.b67_session.specs.Slices.{PrintsWhole, NextFits, StepsFit}

pub below : (k n : ℕ) → k < n + 1 → (k < n) ⊎ (k ≡ n)
below zero zero low = inr refl
below zero (suc n) low = inl (omega arith)
below (suc k) zero low = absurd (omega (arith, low))
below (suc k) (suc n) low = grind arith

-- one step more
pub fits_more : (core size steps : ℕ) (first s : Session) → size ≡ core → after steps first ≡ s → StepsFit core steps first → NextFits size s → StepsFit core (steps + 1) first
fits_more core size steps first s len came each next k low = grind arith

-- and after another, or none
pub fits_then : (core size steps more : ℕ) (first s : Session) → size ≡ core → after steps first ≡ s → more ≤ 1 → StepsFit core steps first → (1 ≤ more → NextFits size s) → StepsFit core (steps + more) first
fits_then core size steps more first s len came few each next k low = grind arith

-- no step is made at the halt
pub below_then : (halt halt' : Option ℕ) (old now steps more : ℕ) → halt' ≡ halt → now ≡ old + steps → more ≤ 1 → halt' ≢ Some now → ((j : ℕ) → j < steps → halt ≢ Some (old + j)) → (j : ℕ) → j < steps + more → halt ≢ Some (old + j)
below_then halt halt' old now steps more same counted few due each j low e = grind arith

-- whole texts after each other
pub whole_then : {K : Type 0} (a b : ℕ) (old now new : Machine) (p p' p'' : K) → PrintsWhole a old now p p' → PrintsWhole b now new p' p'' → PrintsWhole (a + b) old new p p''
whole_then a b old now new p p' p'' one two = grind arith
