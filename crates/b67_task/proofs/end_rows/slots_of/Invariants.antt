use Rattle.std.proofs.Common.{◌≡◌, ◌++◌, ℕ, map, length, drop}
use Rattle.b67_word.specs.declared.faults.Ending.{Ending}
use Rattle.b67_task.specs.LeftRows.{slot_shown}
use Rattle.b67_task.proofs.end_rows.slots_of.Given as goal

abbrev pub invariant-loop-at : goal.invariant-loop-at
invariant-loop-at l = (length l.slots.items ≡ l.at)
    × (l.slots.items ++ map (λ (e : ℕ × Ending). slot_shown l.job e.0 l.rows) (drop l.at l.list) ≡ map (λ (e : ℕ × Ending). slot_shown l.job e.0 l.rows) l.list)
