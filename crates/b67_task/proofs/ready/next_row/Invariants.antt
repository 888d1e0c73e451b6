use Rattle.b67_task.specs.Chosen.{who_is}
use Rattle.b67_task.proofs.Nearer.{Nearest}
use Rattle.b67_task.proofs.ready.next_row.Given as goal

abbrev pub invariant-loop-at : goal.invariant-loop-at
invariant-loop-at l = Nearest l.at l.rows (who_is l.last) l.nearest l.best
