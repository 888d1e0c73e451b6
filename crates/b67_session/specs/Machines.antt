-- Which machines represent a session before a step, between its parts, and once no task is left.
use Rattle.std.specs.Prelude.{◌≡◌, ℕ, List, Option, Some}
use Rattle.b67_model.specs.Common.{IsInOrderButPlaces, StepResult, live_tasks, Session}
use Rattle.b67_session_lines.specs.Moments.{last_part}
use Rattle.b67_stack.specs.Represents.{Storage}
use Rattle.b67_layout.specs.Placement.{Placement}
use Rattle.b67_task.specs.declared.tables.Machine.{Machine}
use Rattle.b67_task.specs.Tables.{MachineRepresents}
use Rattle.b67_law.specs.Orders.{IsInOrderButLimit}

-- the machine represents a session in order, and this is known of what the device's sectors hold
pub record StandsAt (told : Option (List (List ℕ))) (k : Machine) (s : Session) : Type 0 where
  pub storage : Storage
  pub plan : Placement
  pub ordered : IsInOrderButPlaces s
  pub stands : MachineRepresents storage told k plan s

-- the machine represents a session in which the job that made the last operator stands at its limit with live tasks. All of
-- these are to end by LIMIT, deepest first, which is this last part of the step
pub record IsLimited (told : Option (List (List ℕ))) (k : Machine) (h : Session) (part : StepResult) : Type 0 where
  pub storage : Storage
  pub plan : Placement
  pub ordered : IsInOrderButLimit h
  pub is : last_part h ≡ Some part
  pub stands : MachineRepresents storage told k plan h

-- the machine represents a session that no task is left of, and this is known of what the device's sectors hold
pub record RepresentsWithoutTasks (told : Option (List (List ℕ))) (k : Machine) (s : Session) : Type 0 where
  pub storage : Storage
  pub plan : Placement
  pub stands : MachineRepresents storage told k plan s
  pub none : live_tasks s.jobs ≡ 0
