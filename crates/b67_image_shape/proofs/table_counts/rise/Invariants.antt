use Rattle.std.proofs.Common.{◌≡◌, length, map}
use Rattle.b67_task.specs.Tables.{switch_of}
use Rattle.b67_image_shape.specs.TableTests.{rise_test}
use Rattle.b67_image_shape.proofs.table_counts.rise.Given as goal

abbrev pub invariant-each : goal.invariant-each
invariant-each l = rise_test (map switch_of l.switches) ≡ rise_test (map switch_of l.left)

abbrev pub decreases-each : goal.decreases-each
decreases-each l = length l.left
