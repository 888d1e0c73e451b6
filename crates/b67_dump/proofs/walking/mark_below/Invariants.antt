use Rattle.b67_dump.specs.Landmarks.{IsBelow}
use Rattle.b67_dump.proofs.walking.mark_below.Given as goal

abbrev pub invariant-down : goal.invariant-down
invariant-down l = IsBelow l.core l.mark l._step l.at
