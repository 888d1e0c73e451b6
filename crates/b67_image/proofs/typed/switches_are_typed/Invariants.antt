use Rattle.std.proofs.Common.{length}
use Rattle.std.specs.List.{AllByRecursion}
use Rattle.b67_image.specs.Typed.{IsTypedSwitch}
use Rattle.b67_image.proofs.typed.switches_are_typed.Given as goal

abbrev pub invariant-each : goal.invariant-each
invariant-each l = AllByRecursion IsTypedSwitch l.left → AllByRecursion IsTypedSwitch l.switches

abbrev pub decreases-each : goal.decreases-each
decreases-each l = length l.left
