use Rattle.std.proofs.Common.{length}
use Rattle.std.specs.List.{AllByRecursion}
use Rattle.b67_image.specs.Within.{IsFour}
use Rattle.b67_image.proofs.typed.addresses_are_typed.Given as goal

abbrev pub invariant-each : goal.invariant-each
invariant-each l = AllByRecursion IsFour l.left → AllByRecursion IsFour l.addresses

abbrev pub decreases-each : goal.decreases-each
decreases-each l = length l.left
