-- What the machine represents before and after its registers go to another task.
use Rattle.std.specs.Prelude.{◌≡◌, ℕ, ◌<◌, List, length, Option}
use Rattle.b67_word.specs.Tagged.{Tagged}
use Rattle.b67_ctl.specs.declared.registers.TheConstants.{NO_SLOT}
use Rattle.b67_ctl.specs.declared.registers.Regs.{Regs}
use Rattle.b67_model.specs.Schedule.{Session}
use Rattle.b67_layout.specs.Common.{IsInOrderButCounts, Placement, RowsFit, SessionHolds}
use Rattle.b67_stack.specs.Represents.{Storage}
use Rattle.b67_task.specs.declared.tables.Tasks.{Tasks}
use Rattle.b67_task.specs.declared.tables.Machine.{Machine}
use Rattle.b67_task.specs.Tables.{TasksShow, MachineRepresents}

-- the machine represents some session in order, and has a row of this number
pub record HasRow (k : Machine) (row : ℕ) : Type 0 where
  pub storage : Storage
  pub told : Option (List (List ℕ))
  pub plan : Placement
  pub session : Session
  pub ordered : IsInOrderButCounts session
  pub stands : MachineRepresents storage told k plan session
  pub inside : row < length k.tasks.rows.items

-- the registers and the tables are those of a session in order
pub record InUse (r : Regs) (tasks : Tasks) : Type 0 where
  pub storage : Storage
  pub core : List Tagged
  pub marks : List ℕ
  pub plan : Placement
  pub session : Session
  pub ordered : IsInOrderButCounts session
  pub holds : SessionHolds storage core r marks plan session
  pub shows : TasksShow plan session tasks

-- the tables show a session in order, where no task's registers are in use
pub record Rests (tasks : Tasks) (plan : Placement) (s : Session) : Type 0 where
  pub ordered : IsInOrderButCounts s
  pub fits : RowsFit plan s.jobs
  pub few : plan.peak < 121
  pub none : plan.running ≡ NO_SLOT
  pub shows : TasksShow plan s tasks
