use Rattle.std.proofs.Common.{◌≤◌, ℕ}
use Rattle.b67_session.specs.Ends.{IsFirstRow}
use Rattle.b67_session.proofs.deaths.first_row.Given as goal

abbrev pub invariant-loop-at : goal.invariant-loop-at
invariant-loop-at l = (i : ℕ) → IsFirstRow l.rows l.job i → l.at ≤ i
