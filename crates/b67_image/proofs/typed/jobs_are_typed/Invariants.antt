use Rattle.std.proofs.Common.{length}
use Rattle.std.specs.List.{AllByRecursion}
use Rattle.b67_image.specs.Typed.{IsTypedJob}
use Rattle.b67_image.proofs.typed.jobs_are_typed.Given as goal

abbrev pub invariant-each : goal.invariant-each
invariant-each l = AllByRecursion IsTypedJob l.left → AllByRecursion IsTypedJob l.jobs

abbrev pub decreases-each : goal.decreases-each
decreases-each l = length l.left
