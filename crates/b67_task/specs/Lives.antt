-- Which tasks of a job live, by their numbers.
use Rattle.std.specs.Prelude.{◌≡◌, ◌≢◌, ℕ, ℤ, pos, negsuc, ◌&&◌, Bool, false, nat_lt, List, Option, Some, None}
use Rattle.b67_lemmas.specs.Lists.{Has}
use Rattle.b67_model.specs.Common.{Task, SessionJob, Session}
use Rattle.b67_layout.specs.Common.{Placement, RowState, IsReady, AwaitsTask, WaitsAtCell, shown}
use Rattle.b67_task.specs.declared.tables.TaskRow.{TaskRow}
use Rattle.b67_task.specs.declared.tables.TaskState.{TaskState}
use Rattle.b67_task.specs.declared.tables.Tasks.{Tasks}
use Rattle.b67_task.specs.Tables.{state_of}
use Rattle.b67_task.specs.Family.{TablesHold}

-- the tables show a session with a job of this number
pub record HasJob (plan : Placement) (s : Session) (m : SessionJob) (tasks : Tasks) (job : ℕ) : Type 0 where
  pub holds : TablesHold plan s tasks
  pub member : Has s.jobs m
  pub number : m.constants.number ≡ job

-- they do for some session
pub record HasSomeJob (tasks : Tasks) (job : ℕ) : Type 0 where
  pub plan : Placement
  pub session : Session
  pub job_of : SessionJob
  pub has : HasJob plan session job_of tasks job

-- the job's live task of this number has this state
pub record IsTaskIn (plan : Placement) (m : SessionJob) (number : ℤ) (state : TaskState) : Type 0 where
  pub task : Task
  pub live : Has m.progress.job.tasks task
  pub number_is : pos task.number ≡ number
  pub state_is : state_of state ≡ shown plan m.constants.number m.progress.job task task.condition

-- None: it has no live task of this number
abbrev pub StateIs : Placement → SessionJob → ℤ → Option TaskState → Type 0
StateIs plan m number (Some state) = IsTaskIn plan m number state
StateIs plan m number None = (t : Task) → Has m.progress.job.tasks t → pos t.number ≢ number

-- a row of a job and a number has this state. None: there is no such row
abbrev pub FoundState : List TaskRow → ℕ → ℤ → Option TaskState → Type 0
FoundState rows job number (Some state) = (q : TaskRow) × Has rows q × (q.job ≡ job) × (pos q.number ≡ number) × (q.state ≡ state)
FoundState rows job number None = (q : TaskRow) → Has rows q → q.job ≡ job → pos q.number ≢ number

-- what STATUS tells of a live task, by its row's state
abbrev pub status_shown : RowState → ℕ
status_shown IsReady = 1
status_shown (AwaitsTask n) = 2
status_shown (WaitsAtCell mark offset) = 2

-- a number from 1 on and below another
abbrev pub was_before : ℤ → ℕ → Bool
was_before (negsuc n) next = false
was_before (pos n) next = nat_lt 0 n && nat_lt n next
