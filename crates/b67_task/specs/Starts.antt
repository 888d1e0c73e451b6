-- The task that is started, and where.
use Rattle.std.specs.Prelude.{◌≡◌, ℕ, ◌+◌, ◌-◌, ◌^◌, ◌<◌, ◌≤◌, List, ◌∷◌, length, take, reverse, Option, Ok, Some, false, slice_get}
use Rattle.std.specs.List.{AllByRecursion}
use Rattle.b67_model.specs.declared.limits.TheConstants.{MOST_TASKS}
use Rattle.b67_word.specs.declared.couples.Place.{Place}
use Rattle.b67_ctl.specs.declared.map.TheConstants.{SLOTS}
use Rattle.b67_area.specs.declared.Info.{Info}
use Rattle.b67_area.specs.Spans.{area_at}
use Rattle.b67_model.specs.Common.{Word, Proc, Marked, Task, Job, SessionJob, frame, top, cell, level_of_frame, NamesEntered, reach_of, child_of, is_original, Session}
use Rattle.b67_layout.specs.Common.{IsInOrderButCounts, Placement, IsRunning, frame_address, here, peak_with, session_moved}
use Rattle.b67_stack.specs.Represents.{Storage}
use Rattle.b67_task.specs.declared.tables.JobRow.{JobRow}
use Rattle.b67_task.specs.declared.tables.TaskRow.{TaskRow}
use Rattle.b67_task.specs.declared.tables.Tasks.{Tasks}
use Rattle.b67_task.specs.declared.tables.Machine.{Machine}
use Rattle.b67_task.specs.Tables.{MachineRepresents}
use Rattle.b67_task.specs.Born.{with_task_at}
use Rattle.b67_task.specs.Opening.{IsLowestFree, slot_end}

-- the cell of a procedure in an entered frame that a task may name, by its core address; the procedure's level is one above
-- that frame's
pub record IsProcCell (plan : Placement) (m : SessionJob) (t : Task) (at f segment level : ℕ) (place : Place) : Type 0 where
  pub names : NamesEntered (reach_of m.progress.job t) f
  pub own : 1 < f
  pub offset : ℕ
  pub found : cell (here m t t.place) f offset ≡ Ok (Proc segment level place)
  pub at_is : at ≡ frame_address plan m t f + offset
  pub level_is : level_of_frame (frame (here m t t.place) f) + 1 ≡ level

-- the last so many cells of the top frame, from the top down
abbrev pub arguments : Task → ℕ → List Word
arguments t count = take count (top t.frames).cells

-- the running task may start one in a procedure, with so many of its cells, in slot k
pub record MayStart (x : Storage) (plan : Placement) (m : SessionJob) (t : Task) (core at count f segment level : ℕ) (place : Place) (k : ℕ) : Type 0 where
  pub marked : (top t.frames).standing ≡ Marked
  pub enough : count ≤ length (top t.frames).cells
  pub plain : AllByRecursion (λ (w : Word). is_original w ≡ false) (arguments t count)
  pub proc : IsProcCell plan m t at f segment level place
  pub few : length m.progress.job.tasks < MOST_TASKS
  pub number : m.progress.job.next_task + 1 < 2 ^ 32
  pub room : 3 + count ≤ m.constants.stack_size
  pub lowest : IsLowestFree plan k
  pub inside : slot_end plan k ≤ core
  pub clear : (a : ℕ) (i : Info) → area_at x.low x.spans a ≡ Some i → slot_end plan k < a

-- the new task; nothing is cut for it
abbrev pub child : SessionJob → Task → ℕ → ℕ → ℕ → ℕ → Place → Task
child m t count f segment level place = child_of (here m t t.place) (reverse (arguments t count)) f segment level place

abbrev pub with_child : Job → Task → Job
with_child job t = record job { tasks = t ∷ job.tasks; next_task = job.next_task + 1; next_frame = job.next_frame + 1 }

-- the machine represents some session in order, whose running task may start one so
pub record StartsSome (k : Machine) (at count : ℕ) : Type 0 where
  pub storage : Storage
  pub told : Option (List (List ℕ))
  pub plan : Placement
  pub session : Session
  pub member : SessionJob
  pub task : Task
  pub ordered : IsInOrderButCounts session
  pub stands : MachineRepresents storage told k plan session
  pub running : IsRunning plan session.jobs member task
  pub f : ℕ
  pub segment : ℕ
  pub level : ℕ
  pub place : Place
  pub slot : ℕ
  pub may : MayStart storage plan member task (length k.cpu.core) at count f segment level place slot

-- the session with the task started, in some storage
pub record IsStarted (told : Option (List (List ℕ))) (plan : Placement) (s : Session) (m : SessionJob) (new : Task) (slot : ℕ) (k : Machine) : Type 0 where
  pub storage : Storage
  pub stands : MachineRepresents storage told k (with_task_at plan m.constants.number new.number slot (peak_with s 1)) (session_moved s m (with_child m.progress.job new) 1)

-- a job's row once one of its tasks was started
abbrev pub with_next : JobRow → JobRow
with_next r = record r { next_task = r.next_task + 1 }

-- there is room for a row more, and its job's next number is one
pub record HasRowRoom (tasks : Tasks) (row : TaskRow) : Type 0 where
  pub few : length tasks.rows.items < SLOTS
  pub from_one : 1 ≤ row.job
  pub job : JobRow
  pub at : slice_get tasks.jobs (row.job - 1) ≡ Some job
  pub small : job.next_task + 1 < 2 ^ 32
