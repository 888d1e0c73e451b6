use Rattle.std.proofs.Common.{◌≤◌, length}
use Rattle.b67_asm.proofs.Taking.{HeldSoFar}
use Rattle.b67_asm.proofs.names.segments_of.Given as goal

abbrev pub invariant-loop-rest : goal.invariant-loop-rest
invariant-loop-rest l = (length l.rest ≤ length l.lines) × HeldSoFar l.segments.items l.rest l.lines

abbrev pub decreases-loop-rest : goal.decreases-loop-rest
decreases-loop-rest l = length l.rest
