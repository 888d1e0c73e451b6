-- A run that has come so far, and how it stops.
use Rattle.std.proofs.Common.{◌≡◌, ◌+◌, ℕ, List, ◌++◌}
use Rattle.b67_model.specs.Common.{Session, run_text, lines, after}

-- so many steps lead from the first session to this one, and print this text
pub record Ran (steps : ℕ) (first s : Session) (printed : List ℕ) : Type 0 where
  pub leads : (more : ℕ) → after (steps + more) first ≡ after more s
  pub prints : (more : ℕ) → run_text (lines (steps + more) first) ≡ printed ++ run_text (lines more s)
