use Rattle.std.proofs.Common.{◌≡◌, false, take}
use Rattle.std.specs.List.{list_any}
use Rattle.b67_session.specs.Closing.{left_ready}
use Rattle.b67_session.proofs.left.goes_on.Given as goal

abbrev pub invariant-loop-at : goal.invariant-loop-at
invariant-loop-at l = list_any (left_ready l.job l.dead) (take l.at l.tasks.rows.items) ≡ false
