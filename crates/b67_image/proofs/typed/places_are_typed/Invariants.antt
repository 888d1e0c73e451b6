use Rattle.std.proofs.Common.{length}
use Rattle.std.specs.List.{AllByRecursion}
use Rattle.b67_image.specs.Within.{IsTwo}
use Rattle.b67_image.proofs.typed.places_are_typed.Given as goal

abbrev pub invariant-each : goal.invariant-each
invariant-each l = AllByRecursion IsTwo l.left → AllByRecursion IsTwo l.places

abbrev pub decreases-each : goal.decreases-each
decreases-each l = length l.left
