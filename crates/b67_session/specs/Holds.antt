-- A step that makes its task wait.
use Rattle.std.specs.Prelude.{◌≡◌, ℕ, List, [], Option, None, Ok}
use Rattle.arrayvec.specs.ArrayVec.{with_item}
use Rattle.b67_model.specs.Common.{Stepped, step, Session, Condition, Task, Job, SessionJob, with_task, Waits}
use Rattle.b67_model.specs.Endings.{goes_on}
use Rattle.b67_stack.specs.Represents.{Storage}
use Rattle.b67_layout.specs.Common.{Placement, slot_of, shown}
use Rattle.b67_task.specs.declared.tables.TaskState.{TaskState}
use Rattle.b67_task.specs.declared.tables.TaskRow.{TaskRow}
use Rattle.b67_task.specs.declared.tables.Tasks.{Tasks}
use Rattle.b67_task.specs.declared.tables.Machine.{Machine}
use Rattle.b67_task.specs.Tables.{state_of}
use Rattle.b67_task.specs.declared.counting.Chosen.{Chosen}
use Rattle.b67_session.specs.Closing.{StandsChosen}

-- the job in which this task waits so
abbrev pub held : Job → Task → Condition → Job
held job t condition = with_task job (record t { condition = condition })

-- the step that makes it wait
abbrev pub waiting_step : Job → Task → Condition → Stepped
waiting_step job t condition = goes_on (held job t condition) [] None

-- the task, whose registers are in use, waits for this by its step, and the state is what its row shows then
pub record HoldsSo (plan : Placement) (m : SessionJob) (t : Task) (state : TaskState) (condition : Condition) : Type 0 where
  pub is : step m.constants m.progress.job t ≡ Ok (Waits condition)
  pub shows : state_of state ≡ shown plan m.constants.number m.progress.job t condition
  pub runs : plan.running ≡ slot_of plan m.constants.number t.number

-- the chosen task does, in some session
pub record HoldsSome (k : Machine) (c : Chosen) (state : TaskState) : Type 0 where
  pub storage : Storage
  pub told : Option (List (List ℕ))
  pub plan : Placement
  pub session : Session
  pub member : SessionJob
  pub task : Task
  pub condition : Condition
  pub stands : StandsChosen storage told k plan session member task c
  pub so : HoldsSo plan member task state condition

-- the tables with another state in the row at a place
abbrev pub with_state : Tasks → ℕ → TaskRow → TaskState → Tasks
with_state tasks at row state = record tasks { rows = with_item tasks.rows at (record row { state = state }) }
