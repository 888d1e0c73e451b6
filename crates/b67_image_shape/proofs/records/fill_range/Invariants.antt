use Rattle.std.proofs.Common.{◌≡◌, ◌≤◌}
use Rattle.b67_image_shape.specs.RecordTable.{filled_range}
use Rattle.b67_image_shape.proofs.records.fill_range.Given as goal

abbrev pub invariant-down : goal.invariant-down
invariant-down l = (l.left ≤ l.many) × (filled_range l.value l.from l.left l.records ≡ filled_range l.value l.from l.many l.fn.records)

abbrev pub decreases-down : goal.decreases-down
decreases-down l = l.left
