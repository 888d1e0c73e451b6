use Rattle.b67_dump.proofs.Counted.{HasPassed}
use Rattle.b67_dump.proofs.walking.count_marks.Given as goal

abbrev pub invariant-down : goal.invariant-down
invariant-down l = HasPassed l.core l.turns l.mark l.turn l.at
