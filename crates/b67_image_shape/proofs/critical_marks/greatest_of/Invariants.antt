use Rattle.std.proofs.Common.{◌≡◌, length, map, max}
use Rattle.b67_task.specs.Tables.{task_row}
use Rattle.b67_image_shape.specs.FixedWords.{greatest}
use Rattle.b67_image_shape.proofs.critical_marks.greatest_of.Given as goal

abbrev pub invariant-each : goal.invariant-each
invariant-each l = greatest (map task_row l.rows) l.n ≡ max l.most (greatest (map task_row l.left) l.n)

abbrev pub decreases-each : goal.decreases-each
decreases-each l = length l.left
