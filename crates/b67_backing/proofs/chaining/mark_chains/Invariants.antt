use Rattle.std.proofs.Common.{◌+◌}
use Rattle.b67_backing.proofs.Heads.{Heading}
use Rattle.b67_backing.proofs.chaining.mark_chains.Given as goal

abbrev pub invariant-heads : goal.invariant-heads
invariant-heads l = Heading l.links (l.i + 1) l.seen
