use Rattle.std.proofs.Common.{◌≢◌, ◌≤◌, ◌-◌, ℕ, List, Option, None}
use Rattle.b67_io.specs.Free.{tally_told}
use Rattle.b67_model.specs.Common.{Session}
use Rattle.b67_layout.specs.Machine.{Says, DeviceAfterCalls, content_after}
use Rattle.b67_stack.specs.declared.Step.TheVariants.{Done}
use Rattle.b67_exec.specs.Near.{StopsHere}
use Rattle.b67_session.specs.Slices.{StandsAt, Keeps}
use Rattle.b67_session.specs.Search.{PassesBy}
use Rattle.b67_session.proofs.Going.{Going}
use Rattle.b67_session.proofs.finding.find.Given as goal

abbrev pub invariant-turn : goal.invariant-turn
invariant-turn g l = record {
  few : l.made ≤ l.most;
  why : l.why ≢ Done → StopsHere l.machine.cpu l.why;
  device : DeviceAfterCalls g.B.Backing.holds g.B.Backing.size g.B.Backing.calls g.B.Backing.faults l.initial.backing l.backing;
  keeps : Keeps l.initial.machine l.machine;
  going : (told : Option (List (List ℕ))) (s : Session) → Says told (g.B.Backing.holds l.initial.backing) → StandsAt told l.initial.machine s
      → Going tally_told (told ≢ None) (content_after told (g.B.Backing.holds l.backing)) l.made s l.initial.machine l.machine l.initial.paper l.paper;
  passes : (told : Option (List (List ℕ))) (s : Session) → told ≢ None → Says told (g.B.Backing.holds l.initial.backing) → StandsAt told l.initial.machine s
      → PassesBy l.what l.places l.from 0 l.made s None l.best;
}

abbrev pub decreases-turn : goal.decreases-turn
decreases-turn g l = l.most - l.made
