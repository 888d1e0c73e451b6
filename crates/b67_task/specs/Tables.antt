-- When the machine with its tables represents a session.
use Rattle.std.specs.Prelude.{ℕ, ℤ, ◌<◌, ◌^◌, List, length, map, Option}
use Rattle.b67_lemmas.specs.Lists.{Has}
use Rattle.b67_model_text.specs.declared.deck.Switch as text
pub use Rattle.b67_model_text.specs.Opening.{switch_of}
use Rattle.b67_model.specs.Schedule.{Session}
use Rattle.b67_stack.specs.Represents.{Storage}
use Rattle.b67_layout.specs.Common.{Placement, RowState, IsReady, AwaitsTask, WaitsAtCell, JobCounts, TablesShow, RepresentsSession, RepresentsStorage}
use Rattle.b67_layout.specs.Rows as rows
use Rattle.b67_task.specs.declared.tables.TaskState.{TaskState}
use Rattle.b67_task.specs.declared.tables.TaskState.TheVariants.{Ready, Awaits, WaitsAt}
use Rattle.b67_task.specs.declared.tables.TaskRow.{TaskRow}
use Rattle.b67_task.specs.declared.tables.JobRow.{JobRow}
use Rattle.b67_task.specs.declared.tables.Tasks.{Tasks}
use Rattle.b67_task.specs.declared.tables.Machine.{Machine}

abbrev pub state_of : TaskState → RowState
state_of Ready = IsReady
state_of (Awaits n) = AwaitsTask n
state_of (WaitsAt mark offset) = WaitsAtCell mark offset

abbrev pub task_row : TaskRow → rows.TaskRow
task_row r = record { job = r.job; number = r.number; slot = r.slot; parent = r.parent; critical = r.critical; state = state_of r.state; segment = r.segment; place = r.place }

abbrev pub job_row : JobRow → rows.JobRow
job_row r = record { dictionary = r.dict; segments = r.segments; rows = r.rows; limit = r.limit; made = r.made; next_task = r.next_task; numbers = r.numbers; next_number = r.next_number }

abbrev pub counts_of : Tasks → JobCounts
counts_of t = record {
  quantum = t.quantum;
  made = t.made;
  turn = t.turn;
  last_job = t.last_job;
  last_number = t.last_number;
  switches = map switch_of t.switches;
  next_switch = t.next_switch;
  running = t.running;
}

-- the tables of tasks and jobs, and the counts
abbrev pub TasksShow : Placement → Session → Tasks → Type 0
TasksShow plan s t = TablesShow plan s (map task_row t.rows.items) (map job_row t.jobs) (counts_of t)

-- the whole machine, over a device that tells what its sectors hold or doesn't
pub record MachineRepresents (x : Storage) (told : Option (List (List ℕ))) (k : Machine) (plan : Placement) (s : Session) : Type 0 where
  pub session : RepresentsSession x k.cpu plan s
  pub storage : RepresentsStorage k.areas k.sectors told k.cpu.core x
  pub tables : TasksShow plan s k.tasks

-- what the deck gives of a job and no step changes: its name, how many operators it may make, and its numbers for READ
pub record JobGiven : Type 0 where
  pub name : List ℕ
  pub limit : ℕ
  pub numbers : List ℤ

abbrev pub job_given : JobRow → JobGiven
job_given r = record { name = r.name; limit = r.limit; numbers = r.numbers }

abbrev pub rows_given : List JobRow → List JobGiven
rows_given rows = map job_given rows

-- what the deck gives and no step changes: the halt, the operators of a turn, the switches, and this of each job
pub record Given : Type 0 where
  pub halt : Option ℕ
  pub quantum : ℕ
  pub switches : List text.Switch
  pub jobs : List JobGiven

abbrev pub given_of : Tasks → Given
given_of t = record { halt = t.halt; quantum = t.quantum; switches = t.switches; jobs = rows_given t.jobs }

-- a job with fewer numbers than the tables can count
abbrev pub IsCountable : JobRow → Type 0
IsCountable r = length r.numbers < 2 ^ 32

abbrev pub AreCountable : List JobRow → Type 0
AreCountable rows = (r : JobRow) → Has rows r → IsCountable r
