use Rattle.std.proofs.Common.{◌≡◌}
use Rattle.b67_image_shape.specs.Reaching.{has_mark}
use Rattle.b67_image_shape.proofs.reach.has_mark.Given as goal

abbrev pub invariant-down : goal.invariant-down
invariant-down l = has_mark l.core l.turns l.mark l.at ≡ has_mark l.core l.left l.f l.at

abbrev pub decreases-down : goal.decreases-down
decreases-down l = l.left
