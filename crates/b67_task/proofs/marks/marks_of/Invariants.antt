use Rattle.std.proofs.Common.{drop}
use Rattle.b67_task.proofs.Marking.{MarksSoFar}
use Rattle.b67_task.proofs.marks.marks_of.Given as goal

abbrev pub invariant-loop-at : goal.invariant-loop-at
invariant-loop-at l = MarksSoFar l.marks (drop l.at l.rows) l.rows
