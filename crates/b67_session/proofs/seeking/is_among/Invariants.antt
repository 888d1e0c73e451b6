use Rattle.std.proofs.Common.{length}
use Rattle.b67_lemmas.specs.Lists.{Has}
use Rattle.b67_session.proofs.seeking.is_among.Given as goal

abbrev pub invariant-place : goal.invariant-place
invariant-place l = (Has l.left l.at → Has l.places l.at) × (Has l.places l.at → Has l.left l.at)

abbrev pub decreases-place : goal.decreases-place
decreases-place l = length l.left
