use Rattle.std.proofs.Common.{length}
use Rattle.std.specs.List.{AllByRecursion}
use Rattle.b67_image.specs.Typed.{IsTypedNumber}
use Rattle.b67_image.proofs.typed.numbers_are_typed.Given as goal

abbrev pub invariant-each : goal.invariant-each
invariant-each l = AllByRecursion IsTypedNumber l.left → AllByRecursion IsTypedNumber l.numbers

abbrev pub decreases-each : goal.decreases-each
decreases-each l = length l.left
