use Rattle.std.proofs.Common.{◌≡◌, ◌≤◌}
use Rattle.b67_image_shape.specs.FixedTests.{all_below, is_intrinsic}
use Rattle.b67_image_shape.proofs.fixed_words.are_intrinsics.Given as goal

abbrev pub invariant-each : goal.invariant-each
invariant-each l = (all_below (is_intrinsic l.core) l.many ≡ all_below (is_intrinsic l.core) l.n) × (l.n ≤ l.many)

abbrev pub decreases-each : goal.decreases-each
decreases-each l = l.n
