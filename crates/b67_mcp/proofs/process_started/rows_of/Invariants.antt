use Rattle.std.specs.Prelude.{◌≡◌, ◌+◌, ◌≤◌, drop}
use Rattle.b67_mcp.specs.Begins.{rows_of_job}
use Rattle.b67_mcp.proofs.process_started.rows_of.Given as goal

abbrev pub invariant-loop-at : goal.invariant-loop-at
invariant-loop-at l = (l.live + rows_of_job (drop l.at l.rows) l.job ≡ rows_of_job l.rows l.job) × (l.live ≤ l.at)
