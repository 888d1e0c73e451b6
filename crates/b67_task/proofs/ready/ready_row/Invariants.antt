use Rattle.std.specs.Prelude.{ℕ, ◌<◌}
use Rattle.b67_task.specs.Chosen.{who_is, IsReadyAt}
use Rattle.b67_task.proofs.ready.ready_row.Given as goal

abbrev pub invariant-loop-at : goal.invariant-loop-at
invariant-loop-at l = (k : ℕ) → k < l.at → IsReadyAt l.rows k (who_is l.who) → ⊥
