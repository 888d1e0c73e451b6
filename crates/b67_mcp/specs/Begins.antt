-- The parts of PROCESS: the tasks of the running job, the call that is answered, the task that is started.
use Rattle.std.specs.Prelude.{◌==◌, ℕ, ◌<◌, List, length, Option, if◌then◌else◌}
use Rattle.b67_model.specs.declared.limits.TheConstants.{MOST_TASKS}
use Rattle.b67_lemmas.specs.Lists.{total}
use Rattle.b67_word.specs.declared.couples.Place.{Place}
use Rattle.b67_ctl.specs.Layout.{IsPlace}
use Rattle.b67_model.specs.Common.{Word, Job, SessionJob, Session}
use Rattle.b67_stack.specs.Represents.{Storage}
use Rattle.b67_layout.specs.Placement.{Placement}
use Rattle.b67_mcp.specs.Calls.{MayCut}
use Rattle.b67_layout.specs.Moved.{session_moved}
use Rattle.b67_task.specs.Starts.{StartsSome}
use Rattle.b67_task.specs.declared.tables.TaskRow.{TaskRow}
use Rattle.b67_task.specs.declared.tables.Machine.{Machine}
use Rattle.b67_task.specs.Tables.{MachineRepresents}
use Rattle.b67_task.specs.Runs.{RunsTask}
use Rattle.b67_mcp.specs.Asked.{Asks}

-- how many rows are of tasks of a job
abbrev pub counts_for : TaskRow → ℕ → ℕ
counts_for row job = if row.job == job then 1 else 0

abbrev pub rows_of_job : List TaskRow → ℕ → ℕ
rows_of_job rows job = total (λ (r : TaskRow). counts_for r job) rows

-- the running task stands at a call that may be cut off
pub record AnswersSome (k : Machine) : Type 0 where
  pub runs : RunsTask k
  pub may : MayCut runs.member runs.task

-- and it may start a task
pub record BeginsSome (k : Machine) (cell count : ℕ) : Type 0 where
  pub starts : StartsSome k cell count
  pub may : MayCut starts.member starts.task

-- its call asks for a task, fewer than 15 tasks of its job live, and it may go on at this place
pub record AsksSome (k : Machine) (cell count : ℕ) (next : Place) : Type 0 where
  pub runs : RunsTask k
  pub arguments : List Word
  pub asks : Asks runs.plan runs.member runs.task arguments cell count
  pub few : length runs.member.progress.job.tasks < MOST_TASKS
  pub place : IsPlace next

-- the machine represents the session with another job, whose tasks count for the peak
pub record StandsMoved (told : Option (List (List ℕ))) (s : Session) (m : SessionJob) (job : Job) (more : ℕ) (k : Machine) : Type 0 where
  pub storage : Storage
  pub plan : Placement
  pub stands : MachineRepresents storage told k plan (session_moved s m job more)
