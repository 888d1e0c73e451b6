-- How objects are held, where one is held otherwise.
use Rattle.std.proofs.Common.{◌≡◌, ℕ, ◌==◌, Bool, true, false, refl, sym, ap}
use Rattle.std.specs.Prelude.{if◌then◌else◌}
use Rattle.std.proofs.lemmas.Bool.{eqb-true}
use Rattle.b67_stack.specs.Common.{Locations, with_held}

-- what is held as before
pub held-back : (held : Locations) (home : ℕ) → with_held held home (held home) ≡ held
held-back held home = let same : (q : ℕ) → with_held held home (held home) q ≡ held q = λ q. by_test q (q == home) refl in λ i q. same q i where
  by_test : (q : ℕ) (b : Bool) → (q == home) ≡ b → (if q == home then held home else held q) ≡ held q
  by_test q true e = rw e (ap held (sym (eqb-true q home e)))
  by_test q false e = rw e refl
