use Rattle.std.proofs.Common.{◌≡◌, take}
use Rattle.b67_session.proofs.copies.copied_switches.Given as goal

abbrev pub invariant-switches : goal.invariant-switches
invariant-switches l = l.copy ≡ take l.switch-index l.switches
