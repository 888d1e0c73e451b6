-- What a step leaves of the tables' counts.
use Rattle.std.proofs.Common.{◌≡◌, ◌≢◌, ℕ, Err, ap, arith}
use Rattle.b67_task.specs.declared.tables.Tasks.{Tasks}
use Rattle.b67_session.specs.AttemptStops.{Stop}
use Rattle.b67_session.specs.AttemptStops as stops
use Rattle.b67_session.specs.Attempts.{TablesStay}

-- a stop but a printer's leaves the tables
pub stop_printed : (stop : Stop) (old new : Tasks) → TablesStay (Err stop) old new → stop ≢ stops.PrintFault → new.printed ≡ old.printed
stop_printed stop old new same other = grind arith

-- another row runs, with the same counts
pub turned_printed : (old new : Tasks) (row : ℕ) → new ≡ record old { rows = new.rows; running = row } → new.printed ≡ old.printed
turned_printed old new row same = ap (λ (z : Tasks). z.printed) same

pub turned_made : (old new : Tasks) (row : ℕ) → new ≡ record old { rows = new.rows; running = row } → new.made ≡ old.made
turned_made old new row same = ap (λ (z : Tasks). z.made) same
