use Rattle.b67_backing.proofs.Marks.{Walking, blanks}
use Rattle.b67_backing.proofs.chaining.mark_chain.Given as goal

abbrev pub invariant-walk : goal.invariant-walk
invariant-walk l = Walking l.links l.first l.at l.initial.seen l.seen

abbrev pub decreases-walk : goal.decreases-walk
decreases-walk l = blanks l.seen
