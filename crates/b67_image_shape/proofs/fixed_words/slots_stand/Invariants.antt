use Rattle.std.proofs.Common.{◌≡◌, ◌≤◌, map}
use Rattle.b67_task.specs.Tables.{task_row}
use Rattle.b67_image_shape.specs.FixedTests.{all_below, slot_test}
use Rattle.b67_image_shape.proofs.fixed_words.slots_stand.Given as goal

abbrev pub invariant-each : goal.invariant-each
invariant-each l = (all_below (slot_test l.core (map task_row l.rows)) l.many ≡ all_below (slot_test l.core (map task_row l.rows)) l.n) × (l.n ≤ l.many)

abbrev pub decreases-each : goal.decreases-each
decreases-each l = l.n
