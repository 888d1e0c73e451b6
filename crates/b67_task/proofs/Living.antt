-- A job's live tasks by their rows.
use Rattle.std.proofs.Common.{◌≡◌, ◌≢◌, ℕ, ◌+◌, ◌-◌, ◌<◌, ◌≤◌, List, length, get_or, Option, Some, None, Bool, true, false, refl, sym, ◌∙◌, ap, arith, subst, ◌==◌, find}
use Rattle.std.specs.Prelude.{ℤ, pos, if◌then◌else◌}
use Rattle.std.specs.List.{slice_get}
use Rattle.std.proofs.lemmas.Bool.{eq-eqb}
use Rattle.std.proofs.lemmas.Option.{same_Some, slice_get-get_or, slice_get_within}
use Rattle.b67_lemmas.specs.Lists.{Has}
use Rattle.b67_lemmas.proofs.Members.{any_has, any_some, find_none, has_get, has_map}
use Rattle.b67_lemmas.proofs.Places.{has_at, mapped_at}
use Rattle.b67_law.proofs.Numbered.{keyed_member, numbered_low}
use Rattle.b67_model.specs.Common.{is_live, names_task, status_in, status_of, number_of, Session, Condition, Task, Job, SessionJob}
use Rattle.b67_model.specs.Keyed.{keyed}
use Rattle.b67_layout.specs.Common.{Placement, TaskShows, shown}
use Rattle.b67_layout.specs.Rows as rows
use Rattle.b67_layout.proofs.LiveTasks.{job_at, live_in_order}
use Rattle.b67_task.specs.declared.tables.JobRow.{JobRow}
use Rattle.b67_task.specs.declared.tables.TaskRow.{TaskRow}
use Rattle.b67_task.specs.declared.tables.TaskState.{TaskState}
use Rattle.b67_task.specs.declared.tables.Tasks.{Tasks}
use Rattle.b67_task.specs.Tables.{state_of, task_row}
use Rattle.b67_task.specs.Lives.{FoundState, HasJob, IsTaskIn, StateIs, status_shown, was_before}
use Rattle.b67_task.proofs.Depths.{row_of}

-- a row that is found, and none before
pub found_state : (rs : List TaskRow) (at : ℕ) (d : TaskRow) (job : ℕ) (number : ℤ) → at < length rs → (get_or rs at d).job ≡ job → pos (get_or rs at d).number ≡ number → FoundState rs job number (Some (get_or rs at d).state)
found_state rs at d job number low ej en = (get_or rs at d, has_get rs at (get_or rs at d) (slice_get-get_or rs at d low), ej, en, refl)

abbrev pub NoneBefore : List TaskRow → ℕ → ℕ → ℤ → Type 0
NoneBefore rs at job number = (i : ℕ) (q : TaskRow) → i < at → slice_get rs i ≡ Some q → q.job ≡ job → pos q.number ≢ number

pub none_more : (rs : List TaskRow) (at : ℕ) (d : TaskRow) (job : ℕ) (number : ℤ) → at < length rs → NoneBefore rs at job number → (((get_or rs at d).job ≡ job) × (pos (get_or rs at d).number ≡ number) → ⊥) → NoneBefore rs (at + 1) job number
none_more rs at d job number low none here i q up there ej en = grind (arith, slice_get-get_or)

pub none_found : (rs : List TaskRow) (at job : ℕ) (number : ℤ) → length rs ≤ at → NoneBefore rs at job number → FoundState rs job number None
none_found rs at job number past none q i ej en = let (k, there) = has_at rs q i in none k q (omega (arith, past, slice_get_within rs k q there)) there ej en

shown_told : (plan : Placement) (j : ℕ) (job : Job) (t : Task) (c : Condition) → status_shown (shown plan j job t c) ≡ status_in c
shown_told plan j job t c = grind arith

status_found : (job : Job) (n : ℕ) (t : Task) → find (λ (u : Task). u.number == n) job.tasks ≡ Some t → status_of job (pos n) ≡ status_in t.condition
status_found job n t e = rw (e, status_of) refl

module _ (plan : Placement) (s : Session) (m : SessionJob) (tasks : Tasks) (job : ℕ) (h : HasJob plan s m tasks job) where
  row_owner : (row : TaskRow) → Has tasks.rows.items row → row.job ≡ job → (t : Task) × Has m.progress.job.tasks t × TaskShows plan m t (task_row row)
  row_owner row i e =
      let (y, t, in_y, in_t, shows) = h.holds.shows.tasks (task_row row) (has_map task_row tasks.rows.items row i) in
      let same_number : y.constants.number ≡ m.constants.number = sym shows.job ∙ e ∙ sym h.number in
      let same : y ≡ m = same_Some y m (sym (keyed_member 1 s.jobs y h.holds.ordered.numbered in_y) ∙ ap (λ (n : ℕ). keyed number_of n s.jobs) same_number ∙ keyed_member 1 s.jobs m h.holds.ordered.numbered h.member) in
      grind arith

  pub state_is : (number : ℤ) (lent : List TaskRow) → lent ≡ tasks.rows.items → (r : Option TaskState) → FoundState lent job number r → StateIs plan m number r
  state_is number lent same (Some state) (q, i, ej, en, es) = grind (arith, row_owner)
  state_is number lent same None none = λ t i e.
      (let (q, in_q, shows) = row_of plan s tasks h.holds m h.member t i in
      none q (subst (λ (l : List TaskRow). Has l q) (sym same) in_q) (shows.job ∙ h.number) (ap pos shows.number ∙ e))

  pub next_at : (r : JobRow) × (slice_get tasks.jobs (job - 1) ≡ Some r) × (r.next_task ≡ m.progress.job.next_task) × (1 ≤ job)
  next_at = grind (arith, job_at, mapped_at, numbered_low)

  -- what a live task's state tells
  pub told_is : (number : ℤ) (state : TaskState) → IsTaskIn plan m number state → status_shown (state_of state) ≡ status_of m.progress.job number
  told_is number state q =
      ap status_shown q.state_is
      ∙ shown_told plan m.constants.number m.progress.job q.task q.task.condition
      ∙ sym (status_found m.progress.job q.task.number q.task (live_in_order s m q.task h.holds.ordered h.member q.live))
      ∙ ap (status_of m.progress.job) q.number_is

  pub live_is : (number : ℤ) (state : TaskState) → IsTaskIn plan m number state → true ≡ is_live m.progress.job number
  live_is number state q = sym (any_some (λ (t : Task). names_task number t.number) m.progress.job.tasks q.task q.live
      (subst (λ (z : ℤ). names_task z q.task.number ≡ true) q.number_is (eq-eqb q.task.number q.task.number refl)))

pub none_live : (job : Job) (number : ℤ) → ((t : Task) → Has job.tasks t → pos t.number ≢ number) → false ≡ is_live job number
none_live job number none = grind (arith, any_has)

pub none_status : (job : Job) (number : ℤ) → ((t : Task) → Has job.tasks t → pos t.number ≢ number) → status_of job number ≡ (if was_before number job.next_task then 3 else 0)
none_status job number none = grind (arith, find_none)

pub ended_is : (job : Job) (number z : ℤ) → z ≡ number → ((t : Task) → Has job.tasks t → pos t.number ≢ z) → (next : ℕ) → next ≡ job.next_task → (b : Bool) → b ≡ was_before z next → (if b then 3 else 0) ≡ status_of job number
ended_is job number z same none next en b eb = ap (λ (x : Bool). if x then 3 else 0) (eb ∙ ap (was_before z) en) ∙ sym (none_status job z none) ∙ ap (status_of job) same
