-- Operators of a turn that were made and aren't counted yet.
use Rattle.std.specs.Prelude.{◌≡◌, ℕ, ◌+◌, ◌≤◌, ◌<◌, Bool, true, false, List, length, Option, Some}
use Rattle.b67_model.specs.Common.{IsInOrderButPlaces, after, lines, number_of, Session, Task, SessionJob}
use Rattle.b67_model.specs.Keyed.{keyed}
use Rattle.b67_stack.specs.Represents.{Storage}
use Rattle.b67_layout.specs.Placement.{Placement, slot_of}
use Rattle.b67_stack.specs.declared.Cpu.{Cpu}
use Rattle.b67_stack.specs.declared.Step.{Step}
use Rattle.b67_exec.specs.Near.{StopsHere}
use Rattle.b67_task.specs.declared.tables.Machine.{Machine}
use Rattle.b67_task.specs.Runs.{RunsTask}
use Rattle.b67_task.specs.Tables.{MachineRepresents}
use Rattle.b67_task.specs.Counted.{counted_by, counted_more}
use Rattle.b67_task.specs.Lasting.{Lasts, TurnLasts}
use Rattle.b67_session.specs.Makes.{MakesOne, MakesEach}
use Rattle.b67_session.specs.Slices.{StepsFit}

-- the machine represents some session in order, of which the last task has so many operators of its turn left
pub record TurnBegins (k : Machine) (room : ℕ) : Type 0 where
  pub storage : Storage
  pub said : Option (List (List ℕ))
  pub plan : Placement
  pub session : Session
  pub ordered : IsInOrderButPlaces session
  pub stands : MachineRepresents storage said k plan session
  pub lasts : TurnLasts plan session room

-- so many steps without a line lead from a session to one of which the last task has so many operators left; the machine
-- represents that but for the counts of these steps
pub record HasTurnLeft (told : Option (List (List ℕ))) (steps left : ℕ) (first : Session) (core : ℕ) (now : Machine) : Type 0 where
  pub bare : Session
  pub member : SessionJob
  pub task : Task
  pub ordered : IsInOrderButPlaces (counted_by steps bare)
  pub leads : after steps first ≡ counted_by steps bare
  pub silent : (start : Session) (n : ℕ) → after n start ≡ first → lines (n + steps) start ≡ lines n start
  pub fits : StepsFit core steps first
  pub storage : Storage
  pub plan : Placement
  pub stands : MachineRepresents storage told now plan bare
  pub found : keyed number_of bare.last.job bare.jobs ≡ Some member
  pub lasts : Lasts (counted_by steps bare) (counted_more steps member) task left
  pub slot : plan.running ≡ slot_of plan member.constants.number task.number

-- the last task of a session on the way has so many operators left, and not none
pub record TurnGoesOn (k : Machine) (room : ℕ) : Type 0 where
  pub said : Option (List (List ℕ))
  pub steps : ℕ
  pub first : Session
  pub core : ℕ
  pub size : length k.cpu.core ≡ core
  pub turn : HasTurnLeft said steps room first core k
  pub some : 1 ≤ room

-- So many steps lead from a session to another, which is in order, and print nothing; core of so many words had those that they
-- need. The machine represents that session but for the counts of these steps
pub record MadeInTurn (told : Option (List (List ℕ))) (steps : ℕ) (first : Session) (core : ℕ) (k : Machine) : Type 0 where
  pub bare : Session
  pub ordered : IsInOrderButPlaces (counted_by steps bare)
  pub leads : after steps first ≡ counted_by steps bare
  pub silent : (start : Session) (n : ℕ) → after n start ≡ first → lines (n + steps) start ≡ lines n start
  pub fits : StepsFit core steps first
  pub storage : Storage
  pub plan : Placement
  pub stands : MachineRepresents storage told k plan bare

-- so many operators were made, one after the other: if none was, nothing has changed, and if one was, it is the one at the running
-- place
pub record BeginsWith (made : ℕ) (old new : Machine) : Type 0 where
  pub none : made ≡ 0 → new ≡ old
  pub one : made ≡ 1 → MakesOne old new
  pub between : List Machine
  pub count : length between ≡ made
  pub each : MakesEach between old new

-- operators may be made, up to so many, and not none: a task runs, and if they are more than one, its turn goes on with them
pub record MayMake (k : Machine) (most : ℕ) : Type 0 where
  pub runs : RunsTask k
  pub goes : 2 ≤ most → TurnGoesOn k most
  pub some : 1 ≤ most

-- so many operators of a turn are still to be made: fewer, if the turn goes on with them elsewhere, and some, if it doesn't
pub record LeavesToMake (most room : ℕ) (goes : Bool) : Type 0 where
  pub few : room ≤ most
  pub some : goes ≡ true → room < most
  pub left : goes ≡ false → 1 ≤ room

-- all operators that were asked for were made, and the reason is as it was; or fewer, and it says why the next one isn't made
pub record SaysWhyFewer (asked made : ℕ) (cpu : Cpu) (before after : Step) : Type 0 where
  pub all : made ≡ asked → after ≡ before
  pub stops : made < asked → StopsHere cpu after
