-- What the tables of a machine and its registers keep among themselves. No word of core is spoken of.
use Rattle.std.specs.Prelude.{◌≡◌, ◌≢◌, ℕ, ◌+◌, ◌-◌, ◌^◌, ◌<◌, ◌≤◌, ◌==◌, nat_abs, List, [], ◌∷◌, length, filter, take, drop, Option, Some, None, slice_get}
use Rattle.std.specs.List.{AllByRecursion}
use Rattle.b67_ctl.specs.declared.map.TheConstants.{SLOTS}
use Rattle.b67_lemmas.specs.Lists.{Has, total}
use Rattle.b67_model.specs.Keyed.{keyed}
use Rattle.b67_model.specs.Common.{Switch, SwitchesRise}
use Rattle.b67_layout.specs.Rows.{IsReady, TaskRow, JobRow, RunningRow}
use Rattle.b67_layout_shown.specs.Shown.{Sight, placed}
use Rattle.b67_model.specs.declared.limits.TheConstants.{MOST_JOBS, MOST_LIMIT, MOST_TASKS}

-- the row of the task in a slot, and the rows of a job's tasks
abbrev pub row_in_slot : List TaskRow → ℕ → Option TaskRow
row_in_slot tasks k = keyed (λ (r : TaskRow). r.slot) k tasks

abbrev pub rows_in : List TaskRow → ℕ → List TaskRow
rows_in tasks job = filter (λ (r : TaskRow). r.job == job) tasks

-- each job's row, by its number
abbrev pub EachJob : (ℕ → JobRow → Type 0) → ℕ → List JobRow → Type 0
EachJob P job [] = Unit {0}
EachJob P job (row ∷ more) = P job row × EachJob P (job + 1) more

-- no two rows have one slot, and no two of a job one number
abbrev pub AreApart : TaskRow → TaskRow → Type 0
AreApart r q = (r.slot ≢ q.slot) × (r.job ≡ q.job → r.number ≢ q.number)

abbrev pub RowsApart : List TaskRow → Type 0
RowsApart [] = Unit {0}
RowsApart (r ∷ more) = AllByRecursion (AreApart r) more × RowsApart more

-- while tasks of a job live, it is below its limit, and one of them is ready
abbrev pub JobGoesOn : JobRow → List TaskRow → Type 0
JobGoesOn row [] = Unit {0}
JobGoesOn row (r ∷ more) = (row.made < row.limit) × ((q : TaskRow) × Has (r ∷ more) q × (q.state ≡ IsReady))

-- a job's own counts
pub record JobFacts (tasks : List TaskRow) (job : ℕ) (row : JobRow) : Type 0 where
  pub few : length (rows_in tasks job) ≤ MOST_TASKS
  pub reads : AllByRecursion (λ n. nat_abs n < 2 ^ 39) (drop row.next_number row.numbers)
  pub limit : row.limit ≤ MOST_LIMIT
  pub next : row.next_task ≤ row.made + 2
  pub within : row.made ≤ row.limit
  pub goes_on : JobGoesOn row (rows_in tasks job)

-- a first task has number 1 and no parent; another's parent is an older task of its job
abbrev pub BornBy : TaskRow → Option TaskRow → Type 0
BornBy r None = (r.number ≡ 1) × ((r.parent ≡ 255) × (r.critical ≡ 0))
BornBy r (Some p) = (p.job ≡ r.job) × (p.number < r.number)

-- a task's number is one of its job, whose dictionary the registers have if it runs
abbrev pub IsRowOfJob : Sight → TaskRow → Option JobRow → Type 0
IsRowOfJob k r None = ⊥
IsRowOfJob k r (Some row) = (r.number < row.next_task) × (r.slot ≡ k.regs.slot → (k.regs.dict ≡ row.dictionary) × (k.regs.entries ≡ row.segments + row.rows))

-- a live task
pub record RowFacts (k : Sight) (r : TaskRow) : Type 0 where
  pub from_one : 0 < r.job
  pub job : IsRowOfJob k r (slice_get k.jobs (r.job - 1))
  pub slot : r.slot < k.regs.peak
  pub born : BornBy r (row_in_slot k.tasks r.parent)

pub record CountFacts (k : Sight) : Type 0 where
  pub rise : SwitchesRise k.counts.switches
  pub next : k.counts.next_switch ≤ length k.counts.switches
  pub past : AllByRecursion (λ (w : Switch). w.count < k.counts.made) (take k.counts.next_switch k.counts.switches)
  pub counted : k.counts.made ≡ total (λ (r : JobRow). r.made) k.jobs
  pub turn : k.counts.turn ≤ k.counts.made
  pub running : RunningRow (placed k) (slice_get k.tasks k.counts.running) k.counts.running

pub record TableFacts (k : Sight) : Type 0 where
  pub few_jobs : length k.jobs ≤ MOST_JOBS
  pub apart : RowsApart k.tasks
  pub peak : k.regs.peak ≤ SLOTS
  pub rows : AllByRecursion (RowFacts k) k.tasks
  pub jobs : EachJob (JobFacts k.tasks) 1 k.jobs
  pub counts : CountFacts k
