use Rattle.std.specs.Prelude.{ℕ, ◌<◌}
use Rattle.b67_task.proofs.Opens.{IsTaken}
use Rattle.b67_task.proofs.start_slot.lowest_free.Given as goal

abbrev pub invariant-loop-slot : goal.invariant-loop-slot
invariant-loop-slot l = (i : ℕ) → i < l.slot → IsTaken l.core i
