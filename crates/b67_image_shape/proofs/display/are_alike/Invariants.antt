use Rattle.std.proofs.Common.{◌≡◌, ◌≤◌}
use Rattle.b67_image_shape.specs.FixedTests.{all_below}
use Rattle.b67_image_shape.specs.Displays.{alike_at}
use Rattle.b67_image_shape.proofs.display.are_alike.Given as goal

abbrev pub invariant-each : goal.invariant-each
invariant-each l = (all_below (alike_at l.display l.shown) l.levels ≡ all_below (alike_at l.display l.shown) l.n) × (l.n ≤ l.levels)

abbrev pub decreases-each : goal.decreases-each
decreases-each l = l.n
