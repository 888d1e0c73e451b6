use Rattle.std.proofs.Common.{◌≡◌, take}
use Rattle.b67_session.proofs.left.copied.Given as goal

abbrev pub invariant-loop-at : goal.invariant-loop-at
invariant-loop-at l = l.copy.items ≡ take l.at l.list
