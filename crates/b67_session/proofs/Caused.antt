-- What a step says of failures, and what it keeps, by what its parts do.
use Rattle.std.proofs.Common.{◌≡◌, ◌≢◌, ◌≤◌, ℕ, length, Result, Err, arith}
use Rattle.b67_io.specs.Causes.{Rose}
use Rattle.b67_task.specs.declared.tables.Machine.{Machine}
use Rattle.b67_session.specs.AttemptPassed.{CallCauses}
use Rattle.b67_session.specs.AttemptStops.{Stop}
use Rattle.b67_session.specs.AttemptStops as stops
use Rattle.b67_session.specs.Slices.{Keeps}

-- an attempt that didn't stop, and a last part of which only the printer may fail
pub step_causes : {D K : Type 0} (failed : D → ℕ) (refused : K → ℕ) (a b : D) (p q r : K) (answered : Result (Unit {0}) Stop) → refused p ≤ refused q → refused q ≤ refused r → (answered ≡ Err stops.PrintFault → Rose refused q r)
    → answered ≢ Err stops.BackingFault → CallCauses failed refused a b p r answered
step_causes failed refused a b p q r answered one two rose other = grind arith

-- the tables with another running row, and then an attempt
pub turn_keeps : (old mid new : Machine) (row : ℕ) → mid.tasks ≡ record old.tasks { rows = mid.tasks.rows; running = row } → length mid.cpu.core ≡ length old.cpu.core → mid.sectors ≡ old.sectors → Keeps mid new → Keeps old new
turn_keeps old mid new row tables core sectors k = grind arith

-- the printer's failure isn't the device's
pub printer_alone : ◌≢◌ {A = Result (Unit {0}) Stop} (Err stops.PrintFault) (Err stops.BackingFault)
printer_alone e = let b : ⊥ = cc in b
