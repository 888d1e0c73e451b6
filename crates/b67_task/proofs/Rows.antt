-- The tables once a task was started: its row is the last, and its job's next task has the next number.
use Rattle.std.proofs.Common.{◌≡◌, ℕ, zero, suc, ◌+◌, ◌-◌, ◌<◌, ◌≤◌, List, [], ◌∷◌, ◌++◌, map, length, Option, Some, None, refl, sym, ◌∙◌, ap, arith, slice_set}
use Rattle.std.specs.List.{slice_get}
use Rattle.std.proofs.lemmas.List.{map-append, length-map}
use Rattle.std.proofs.lemmas.Option.{none-some}
use Rattle.b67_lemmas.specs.Lists.{Has}
use Rattle.b67_lemmas.proofs.Members.{has_get, keyed_has}
use Rattle.b67_lemmas.proofs.Places.{map-slice_set, mapped_at, at_mapped}
use Rattle.b67_law.proofs.Numbered.{keyed_member, numbered_low}
use Rattle.b67_model.specs.Common.{Task, Job, SessionJob, live_tasks, number_of, Session, NumberedFrom}
use Rattle.b67_model.specs.Keyed.{keyed}
use Rattle.b67_layout.specs.Common.{IsInOrderButCounts, Placement, JobsShow, RunningRow, TaskShows, IsRunning, RepresentsSession, peak_with, session_moved}
use Rattle.b67_stack.specs.Represents.{Storage}
use Rattle.b67_layout.specs.Rows as rows
use Rattle.b67_layout.proofs.Common.{with_course, slot_below, running_only, rows_live, job_at, live_in_order}
use Rattle.b67_stack.specs.declared.Cpu.{Cpu}
use Rattle.b67_task.specs.declared.tables.JobRow.{JobRow}
use Rattle.b67_task.specs.declared.tables.TaskRow.{TaskRow}
use Rattle.b67_task.specs.declared.tables.Tasks.{Tasks}
use Rattle.b67_task.specs.Tables.{task_row, job_row, counts_of, TasksShow}
use Rattle.b67_task.specs.Born.{with_task_at}
use Rattle.b67_task.specs.Joining.{Joins}
use Rattle.b67_task.specs.Starts.{with_child, with_next}
use Rattle.b67_task.proofs.Tabled.{tables_born}

-- the row of the running task
pub record RowOf (tasks : Tasks) (plan : Placement) (m : SessionJob) (t : Task) : Type 0 where
  pub row : TaskRow
  pub at : slice_get tasks.rows.items tasks.running ≡ Some row
  pub job : row.job ≡ m.constants.number
  pub slot : row.slot ≡ plan.running

pub row_of : (x : Storage) (cpu : Cpu) (tasks : Tasks) (plan : Placement) (s : Session) (m : SessionJob) (t : Task) → IsInOrderButCounts s → RepresentsSession x cpu plan s → TasksShow plan s tasks → IsRunning plan s.jobs m t → RowOf tasks plan m t
row_of x cpu tasks plan s m t o h shows runs = by (slice_get (map task_row tasks.rows.items) tasks.running) refl shows.counts.running
  where
    low : plan.running < 120
    low =
        let below = slot_below plan s.jobs m t h.holds.fits.rows (keyed_has number_of m.constants.number s.jobs m runs.member).0 (keyed_has (λ (u : Task). u.number) t.number m.progress.job.tasks t runs.task).0 in
        omega (arith, below, runs.slot, h.holds.fits.few)

    by : (q : Option rows.TaskRow) → slice_get (map task_row tasks.rows.items) tasks.running ≡ q → RunningRow plan q tasks.running → RowOf tasks plan m t
    by None e r = absurd (omega (arith, low, r.1))
    by (Some row) e r =
        let (found, at, same) = mapped_at task_row tasks.rows.items tasks.running row e in
        let (y, u, iny, inu, w) = shows.tasks row (has_get (map task_row tasks.rows.items) tasks.running row e) in
        let running : IsRunning plan s.jobs y u = record { member = keyed_member 1 s.jobs y o.numbered iny; task = live_in_order s y u o iny inu; slot = sym r.1 ∙ w.slot } in
        let P : SessionJob → Task → Type 0 = λ z v. row.job ≡ z.constants.number in
        let is = running_only plan s.jobs y m u t P h.holds.fits.rows running runs w.job in
        record { row = found; at = at; job = ap (λ (z : rows.TaskRow). z.job) same ∙ is; slot = ap (λ (z : rows.TaskRow). z.slot) same ∙ r.1 }

-- the row of its job
pub record JobRowOf (tasks : Tasks) (m : SessionJob) : Type 0 where
  pub row : JobRow
  pub at : slice_get tasks.jobs (m.constants.number - 1) ≡ Some row
  pub next : row.next_task ≡ m.progress.job.next_task

pub job_row_of : (tasks : Tasks) (plan : Placement) (s : Session) (m : SessionJob) → NumberedFrom 1 s.jobs → TasksShow plan s tasks → Has s.jobs m → JobRowOf tasks m
job_row_of tasks plan s m numbered shows i = grind (arith, job_at, mapped_at)

-- as many rows as live tasks
pub rows_few : (tasks : Tasks) (plan : Placement) (s : Session) (x : Storage) (cpu : Cpu) → IsInOrderButCounts s → RepresentsSession x cpu plan s → TasksShow plan s tasks → length tasks.rows.items ≡ live_tasks s.jobs
rows_few tasks plan s x cpu o h shows = sym (length-map tasks.rows.items task_row) ∙ rows_live plan s o h.holds.fits.rows (map task_row tasks.rows.items) (map job_row tasks.jobs) (counts_of tasks) shows

module _ (plan : Placement) (m : SessionJob) (job' : Job) (number k peak : ℕ) (next : job'.next_task ≡ m.progress.job.next_task + 1) (numbers : job'.numbers ≡ m.progress.job.numbers) where
  abbrev more : Placement
  more = with_task_at plan m.constants.number number k peak

  rest_shows : (jobs : List SessionJob) (rs : List rows.JobRow) → JobsShow plan jobs rs → JobsShow more jobs rs
  rest_shows [] [] h = h
  rest_shows [] (r ∷ rs) h = absurd h
  rest_shows (y ∷ ys) [] h = absurd h
  rest_shows (y ∷ ys) (r ∷ rs) h = grind (arith, rest_shows ys rs h.1)

  pub jobs_next : (from i : ℕ) (jobs : List SessionJob) (rs : List rows.JobRow) (r : rows.JobRow) → from + i ≡ m.constants.number → NumberedFrom from jobs → keyed number_of m.constants.number jobs ≡ Some m → JobsShow plan jobs rs → slice_get rs i ≡ Some r
      → JobsShow (with_task_at plan m.constants.number number k peak) (with_course jobs m.constants.number (record m.progress { job = job' })) (slice_set rs i (record r { next_task = r.next_task + 1 }))
  jobs_next from i [] [] r e d found h at = absurd (none-some r at)
  jobs_next from i [] (q ∷ rs) r e d found h at = absurd h
  jobs_next from i (y ∷ ys) [] r e d found h at = absurd h
  jobs_next from zero (y ∷ ys) (q ∷ rs) r e d found h at = grind (arith, rest_shows)
  jobs_next from (suc i) (y ∷ ys) (q ∷ rs) r e d found h at = grind (arith, jobs_next (from + 1) i ys rs r)

-- the tables show the session with the new task
pub tables_started : (tasks tasks' : Tasks) (plan : Placement) (s : Session) (m : SessionJob) (t new : Task) (k : ℕ) (x : Storage) (cpu : Cpu) (o : IsInOrderButCounts s) (h : RepresentsSession x cpu plan s) (shows : TasksShow plan s tasks) (runs : IsRunning plan s.jobs m t)
    → Joins plan s.jobs m (with_child m.progress.job new) new k (peak_with s 1) → (row : TaskRow) → row.job ≡ m.constants.number → row.slot ≡ k
    → TaskShows (with_task_at plan m.constants.number new.number k (peak_with s 1)) (record m { progress = record m.progress { job = with_child m.progress.job new } }) new (task_row row)
    → tasks'.rows.items ≡ tasks.rows.items ++ row ∷ [] → ((r : JobRow) → slice_get tasks.jobs (row.job - 1) ≡ Some r → tasks'.jobs ≡ slice_set tasks.jobs (row.job - 1) (with_next r)) → tasks' ≡ record tasks { rows = tasks'.rows; jobs = tasks'.jobs }
    → TasksShow (with_task_at plan m.constants.number new.number k (peak_with s 1)) (session_moved s m (with_child m.progress.job new) 1) tasks'
tables_started tasks tasks' plan s m t new k x cpu o h shows runs joins row job_is at_slot row_shows rows_are jobs_are rest =
    let P = peak_with s 1 in
    let has_m = (keyed_has number_of m.constants.number s.jobs m runs.member).0 in
    let of = row_of x cpu tasks plan s m t o h shows runs in
    let j = job_row_of tasks plan s m o.numbered shows has_m in
    let low : 1 ≤ m.constants.number = numbered_low 1 s.jobs m o.numbered has_m in
    let got : slice_get tasks.jobs (row.job - 1) ≡ Some j.row = ap (λ (n : ℕ). slice_get tasks.jobs (n - 1)) job_is ∙ j.at in
    let jobs_mapped : slice_set (map job_row tasks.jobs) (m.constants.number - 1) (job_row (with_next j.row)) ≡ map job_row tasks'.jobs =
    sym (ap (map job_row) (jobs_are j.row got) ∙ map-slice_set job_row tasks.jobs (row.job - 1) (with_next j.row) ∙ ap (λ (n : ℕ). slice_set (map job_row tasks.jobs) (n - 1) (job_row (with_next j.row))) job_is) in
    let mapped : map task_row tasks.rows.items ++ task_row row ∷ [] ≡ map task_row tasks'.rows.items = sym (ap (map task_row) rows_are ∙ map-append task_row tasks.rows.items (row ∷ [])) in
    let next = jobs_next plan m (with_child m.progress.job new) new.number k P refl refl 1 (m.constants.number - 1) s.jobs (map job_row tasks.jobs) (job_row j.row) (omega (arith, low)) o.numbered runs.member shows.jobs (at_mapped job_row tasks.jobs (m.constants.number - 1) j.row j.at) in
    let born = tables_born plan s m (with_child m.progress.job new) new k P o.numbered joins (map task_row tasks.rows.items) (map job_row tasks.jobs) (slice_set (map job_row tasks.jobs) (m.constants.number - 1) (job_row (with_next j.row))) (counts_of tasks) (task_row row) shows row_shows at_slot next
    (task_row of.row) (at_mapped task_row tasks.rows.items tasks.running of.row of.at) in
    grind (arith, slice_set)
