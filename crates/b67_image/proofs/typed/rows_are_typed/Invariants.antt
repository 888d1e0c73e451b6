use Rattle.std.proofs.Common.{length}
use Rattle.std.specs.List.{AllByRecursion}
use Rattle.b67_image.specs.Within.{IsRowInRange}
use Rattle.b67_image.proofs.typed.rows_are_typed.Given as goal

abbrev pub invariant-each : goal.invariant-each
invariant-each l = AllByRecursion IsRowInRange l.left → AllByRecursion IsRowInRange l.rows

abbrev pub decreases-each : goal.decreases-each
decreases-each l = length l.left
