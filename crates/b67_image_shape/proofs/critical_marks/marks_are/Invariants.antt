use Rattle.std.proofs.Common.{◌≡◌, ◌≤◌, map}
use Rattle.b67_task.specs.Tables.{task_row}
use Rattle.b67_image_shape.specs.FixedTests.{all_below, mark_test}
use Rattle.b67_image_shape.proofs.critical_marks.marks_are.Given as goal

abbrev pub invariant-each : goal.invariant-each
invariant-each l = (all_below (mark_test l.critical (map task_row l.rows)) l.many ≡ all_below (mark_test l.critical (map task_row l.rows)) l.n) × (l.n ≤ l.many)

abbrev pub decreases-each : goal.decreases-each
decreases-each l = l.n
