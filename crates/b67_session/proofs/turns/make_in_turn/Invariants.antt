use Rattle.std.proofs.Common.{◌≡◌, ◌≤◌, ◌-◌, ℕ, List, length, Option}
use Rattle.b67_model.specs.InOrder.{IsInOrderButPlaces}
use Rattle.b67_model.specs.Schedule.{Session}
use Rattle.b67_stack.specs.Represents.{Storage}
use Rattle.b67_layout.specs.Placement.{Placement}
use Rattle.b67_task.specs.Tables.{MachineRepresents}
use Rattle.b67_task.specs.Lasting.{TurnLasts}
use Rattle.b67_session.specs.Slices.{Keeps}
use Rattle.b67_session.specs.InTurn.{BeginsWith, HasTurnLeft}
use Rattle.b67_session.proofs.turns.make_in_turn.Given as goal

abbrev pub invariant-segment : goal.invariant-segment
invariant-segment l = record {
  few : l.left ≤ l.room;
  why : l.why ≡ l.initial.why;
  tables : l.machine.tasks ≡ l.initial.machine.tasks;
  keeps : Keeps l.initial.machine l.machine;
  first : BeginsWith (l.room - l.left) l.initial.machine l.machine;
  turn : (x : Storage) (told : Option (List (List ℕ))) (plan : Placement) (s : Session) → IsInOrderButPlaces s → MachineRepresents x told l.initial.machine plan s → TurnLasts plan s l.room
      → HasTurnLeft told (l.room - l.left) l.left s (length l.initial.machine.cpu.core) l.machine;
}

abbrev pub decreases-segment : goal.decreases-segment
decreases-segment l = l.left
