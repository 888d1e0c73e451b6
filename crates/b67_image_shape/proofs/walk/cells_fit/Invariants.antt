use Rattle.std.proofs.Common.{◌≡◌, ◌≤◌}
use Rattle.b67_image_shape.specs.StackWalk.{cells_fit}
use Rattle.b67_image_shape.proofs.walk.cells_fit.Given as goal

abbrev pub invariant-down : goal.invariant-down
invariant-down l = (l.left ≤ l.many) × (cells_fit l.core l.at l.many ≡ cells_fit l.core l.at l.left)

abbrev pub decreases-down : goal.decreases-down
decreases-down l = l.left
