use Rattle.b67_dump.proofs.Sought.{IsSought}
use Rattle.b67_dump.proofs.walking.owner_of.Given as goal

abbrev pub invariant-down : goal.invariant-down
invariant-down l = IsSought l.core l.turns l.mark l.home l.turn l.at
