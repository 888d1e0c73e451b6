-- What the rows of tasks and of jobs, and the counts, show of a session's state. They are plain values here, which the
-- tables of the machine give.
use Rattle.std.specs.Prelude.{◌≡◌, ◌≢◌, ℕ, ℤ, ◌+◌, ◌<◌, ◌≤◌, List, [], ◌∷◌, length, map, drop, Option, Some, None, slice_get}
use Rattle.b67_word.specs.declared.couples.Place.{Place}
use Rattle.b67_ctl.specs.declared.registers.TheConstants.{NO_SLOT}
use Rattle.b67_lemmas.specs.Lists.{Has}
use Rattle.b67_model.specs.Common.{Condition, Ready, Awaits, WaitsAt, Task, Job, SessionJob, frames_of_task, Switch, Session}
use Rattle.b67_model.specs.Keyed.{keyed}
use Rattle.b67_layout.specs.Placement.{Placement, slot_of, spot_in, base_spot, spots, address_of}

-- ready, or waiting for a task's end, or at the cell of an offset above the mark at a core address
pub data RowState : Type 0 where
  IsReady : RowState
  AwaitsTask : (number : ℕ) → RowState
  WaitsAtCell : (mark offset : ℕ) → RowState

-- the row of a live task: its parent's slot, NO_SLOT for none, and the displacement of the mark in that slot which the
-- parent may not leave
pub record TaskRow : Type 0 where
  pub job : ℕ
  pub number : ℕ
  pub slot : ℕ
  pub parent : ℕ
  pub critical : ℕ
  pub state : RowState
  pub segment : ℕ
  pub place : Place

-- the row of a job: its dictionary's address, its segments and data rows, its limit and how many operators it has made,
-- the next task's number, the numbers for READ and the first that is left
pub record JobRow : Type 0 where
  pub dictionary : ℕ
  pub segments : ℕ
  pub rows : ℕ
  pub limit : ℕ
  pub made : ℕ
  pub next_task : ℕ
  pub numbers : List ℤ
  pub next_number : ℕ

-- what the counts have for a running row, if no task's registers are in use
abbrev pub no_row : ℕ
no_row = 255

-- the counts of the session: the first switch that is left, the row of the running task, no_row for none
pub record JobCounts : Type 0 where
  pub quantum : ℕ
  pub made : ℕ
  pub turn : ℕ
  pub last_job : ℕ
  pub last_number : ℕ
  pub switches : List Switch
  pub next_switch : ℕ
  pub running : ℕ

abbrev pub shown : Placement → ℕ → Job → Task → Condition → RowState
shown plan j job t Ready = IsReady
shown plan j job t (Awaits n) = AwaitsTask n
shown plan j job t (WaitsAt frame offset) = WaitsAtCell (address_of plan (spots plan j job t frame)) offset

-- the nearest parent's slot, and the displacement of the critical mark there
abbrev pub parent_slot : Placement → ℕ → List ℕ → ℕ
parent_slot plan j [] = NO_SLOT
parent_slot plan j (parent ∷ more) = slot_of plan j parent

abbrev pub critical_disp : Placement → ℕ → Job → ℕ → List ℕ → ℕ
critical_disp plan j job critical [] = 0
critical_disp plan j job critical (parent ∷ more) =
    (spot_in (slot_of plan j parent) (base_spot j) (frames_of_task (keyed (λ t. t.number) parent job.tasks)) critical).disp

-- a row shows a task; where it goes on only where its registers aren't in the registers
pub record TaskShows (plan : Placement) (m : SessionJob) (t : Task) (row : TaskRow) : Type 0 where
  pub job : row.job ≡ m.constants.number
  pub number : row.number ≡ t.number
  pub slot : row.slot ≡ slot_of plan m.constants.number t.number
  pub parent : row.parent ≡ parent_slot plan m.constants.number t.parents
  pub critical : row.critical ≡ critical_disp plan m.constants.number m.progress.job t.critical t.parents
  pub state : row.state ≡ shown plan m.constants.number m.progress.job t t.condition
  pub segment : row.slot ≢ plan.running → row.segment ≡ t.segment + 1
  pub place : row.slot ≢ plan.running → row.place ≡ t.place

-- a row shows a job
pub record JobShows (plan : Placement) (m : SessionJob) (row : JobRow) : Type 0 where
  pub dictionary : row.dictionary ≡ plan.dictionary m.constants.number
  pub segments : row.segments ≡ length m.constants.segments
  pub rows : row.segments + row.rows ≡ length m.constants.dictionary.cells
  pub limit : row.limit ≡ m.constants.limit
  pub made : row.made ≡ m.progress.made
  pub next_task : row.next_task ≡ m.progress.job.next_task
  pub numbers : drop row.next_number row.numbers ≡ m.progress.job.numbers

abbrev pub JobsShow : Placement → List SessionJob → List JobRow → Type 0
JobsShow plan [] [] = Unit {0}
JobsShow plan (m ∷ more) (row ∷ rows) = JobShows plan m row × JobsShow plan more rows
JobsShow plan _ _ = ⊥

-- the running row's slot is that of the running task
abbrev pub RunningRow : Placement → Option TaskRow → ℕ → Type 0
RunningRow plan None running = (running ≡ no_row) × (plan.running ≡ NO_SLOT)
RunningRow plan (Some row) running = (running ≢ no_row) × (row.slot ≡ plan.running)

pub record CountsShow (plan : Placement) (s : Session) (rows : List TaskRow) (c : JobCounts) : Type 0 where
  pub quantum : c.quantum ≡ s.quantum
  pub made : c.made ≡ s.made
  pub turn : c.turn ≡ s.turn
  pub last_job : c.last_job ≡ s.last.job
  pub last_number : c.last_number ≡ s.last.task
  pub switches : c.switches ≡ s.switches
  pub next : c.next_switch ≤ length c.switches
  pub past : (i : ℕ) (w : Switch) → i < c.next_switch → slice_get c.switches i ≡ Some w → w.count < c.made
  pub running : RunningRow plan (slice_get rows c.running) c.running

-- no number stands twice
abbrev pub Differ : List ℕ → Type 0
Differ [] = Unit {0}
Differ (n ∷ more) = (Has more n → ⊥) × Differ more

-- the tables show the session: a row for each live task and each row a live task's, the jobs in order, the counts
pub record TablesShow (plan : Placement) (s : Session) (rows : List TaskRow) (job_rows : List JobRow) (c : JobCounts) : Type 0 where
  pub tasks : (row : TaskRow) → Has rows row → (m : SessionJob) × (t : Task) × Has s.jobs m × Has m.progress.job.tasks t × TaskShows plan m t row
  pub each : (m : SessionJob) (t : Task) → Has s.jobs m → Has m.progress.job.tasks t → (row : TaskRow) × Has rows row × TaskShows plan m t row
  pub once : Differ (map (λ (row : TaskRow). row.slot) rows)
  pub jobs : JobsShow plan s.jobs job_rows
  pub counts : CountsShow plan s rows c
