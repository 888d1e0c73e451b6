use Rattle.std.proofs.Common.{length}
use Rattle.b67_web.proofs.Left.{IsLeft}
use Rattle.b67_web.proofs.finding.places_of.Given as goal

abbrev pub invariant-place : goal.invariant-place
invariant-place l = IsLeft l.fn.numbers l.places.items l.left

abbrev pub decreases-place : goal.decreases-place
decreases-place l = length l.left
