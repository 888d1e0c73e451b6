use Rattle.std.proofs.Common.{◌≡◌, ◌≤◌, ◌+◌, ◌-◌, ℕ, List, length, Option}
use Rattle.b67_model.specs.Schedule.{Session}
use Rattle.b67_exec.specs.Near.{ReaderBehind}
use Rattle.b67_session.specs.InTurn.{BeginsWith, HasTurnLeft}
use Rattle.b67_session.specs.Slices.{Keeps}
use Rattle.b67_session.proofs.turns.make_in_segment.Given as goal

abbrev pub invariant-operator : goal.invariant-operator
invariant-operator l = record {
  few : l.room ≤ l.most;
  tables : l.machine.tasks ≡ l.initial.machine.tasks;
  keeps : Keeps l.initial.machine l.machine;
  stands : ReaderBehind l.machine.cpu l.reader 0;
  first : BeginsWith (l.most - l.room) l.initial.machine l.machine;
  turn : (said : Option (List (List ℕ))) (steps core : ℕ) (s : Session) → length l.initial.machine.cpu.core ≡ core → HasTurnLeft said steps l.most s core l.initial.machine
      → HasTurnLeft said (steps + (l.most - l.room)) l.room s core l.machine;
}

abbrev pub decreases-operator : goal.decreases-operator
decreases-operator l = l.room
