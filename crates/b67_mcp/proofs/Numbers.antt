-- The rows of jobs where READ took a number.
use Rattle.std.proofs.Common.{◌≡◌, ℕ, ◌-◌, ◌≤◌, List, [], ◌∷◌, map, Some, Result, refl, ◌∙◌, arith, slice_set}
use Rattle.std.specs.List.{slice_get}
use Rattle.b67_word.specs.Tagged.{Tagged}
use Rattle.b67_word.specs.declared.faults.Fault.{Fault}
use Rattle.b67_word.specs.declared.couples.Place.{Place}
use Rattle.b67_lemmas.proofs.Members.{keyed_has}
use Rattle.b67_lemmas.proofs.Places.{at_mapped, map-slice_set, mapped_at, put_back}
use Rattle.b67_model.specs.Common.{Word, Operand, Task, SessionJob, top, below_top, answered, read_from, number_of, Session}
use Rattle.b67_layout.specs.Common.{IsInOrderButCounts, Placement, JobShows, TablesShow, IsRunning, here, with_job}
use Rattle.b67_layout.specs.Rows as rows
use Rattle.b67_mcp.specs.Reads.{job_read, NumberIsRead, ReadMeets}
use Rattle.b67_task.specs.declared.tables.JobRow.{JobRow}
use Rattle.b67_task.specs.declared.tables.Tasks.{Tasks}
use Rattle.b67_task.specs.Tables.{task_row, job_row, counts_of, TasksShow, job_given}
use Rattle.b67_layout.proofs.LiveTasks.{job_at}
use Rattle.b67_mcp.proofs.Passed.{jobs_put, tables_after, replaces_answered, waits_answered}
use Rattle.b67_law.proofs.Numbered.{numbered_low}

-- the row of a job
pub record JobIn (tasks : Tasks) (plan : Placement) (m : SessionJob) : Type 0 where
  pub row : JobRow
  pub at : slice_get tasks.jobs (m.constants.number - 1) ≡ Some row
  pub shows : JobShows plan m (job_row row)
  pub from_one : 1 ≤ m.constants.number

pub job_in : (tasks : Tasks) (plan : Placement) (s : Session) (m : SessionJob) (t : Task) → IsInOrderButCounts s → TasksShow plan s tasks → IsRunning plan s.jobs m t → JobIn tasks plan m
job_in tasks plan s m t o h runs =
    let inm = (keyed_has number_of m.constants.number s.jobs m runs.member).0 in
    grind (arith, job_at, mapped_at, numbered_low)

pub tasks_same : (tasks tasks' : Tasks) (i : ℕ) (row new : JobRow) → slice_get tasks.jobs i ≡ Some row → tasks'.jobs ≡ slice_set tasks.jobs i new → new ≡ row → tasks' ≡ record tasks { jobs = tasks'.jobs } → tasks' ≡ tasks
tasks_same tasks tasks' i row new at is same rest = grind (arith, put_back)

-- READ changes nothing that was given
pub same_given : (plan : Placement) (m : SessionJob) (t : Task) (arguments : List Word) (old new : JobRow) (answer : Result Tagged Fault) → ReadMeets plan m t arguments old new answer → job_given new ≡ job_given old
same_given plan m t arguments old new answer h = grind arith

module _ (plan : Placement) (s : Session) (m : SessionJob) (t : Task) (o : IsInOrderButCounts s) (runs : IsRunning plan s.jobs m t) (q : Place) (arguments : List Word) (tasks tasks' : Tasks) (h : TasksShow plan s tasks) (old new : JobRow) (w : Tagged)
    (at : slice_get tasks.jobs (m.constants.number - 1) ≡ Some old) (is : tasks'.jobs ≡ slice_set tasks.jobs (m.constants.number - 1) new) (rest : tasks' ≡ record tasks { jobs = tasks'.jobs }) (did : NumberIsRead plan m t arguments old new w) where
  pub tables_read : TasksShow plan (with_job s m (job_read m t q)) tasks'
  tables_read =
      let word : Word = Operand (read_from m.progress.job.numbers).0 in
      let low = numbered_low 1 s.jobs m o.numbered (keyed_has number_of m.constants.number s.jobs m runs.member).0 in
      let jobs = jobs_put plan 1 (m.constants.number - 1) m.constants.number m (record m.progress { job = job_read m t q }) s.jobs (map job_row tasks.jobs) (job_row old) (job_row new) (omega (arith, low)) o.numbered runs.member
      (at_mapped job_row tasks.jobs (m.constants.number - 1) old at) (did.shows q) h.jobs in
      let shown : TablesShow plan (with_job s m (job_read m t q)) (map task_row tasks.rows.items) (slice_set (map job_row tasks.jobs) (m.constants.number - 1) (job_row new)) (counts_of tasks) =
      tables_after plan s m t (answered (here m t q) (word ∷ [])) (job_read m t q) o runs (replaces_answered plan s m t o runs did.may q word (job_read m t q) refl) refl (waits_answered plan s m t o runs did.may (word ∷ (top (below_top t.frames)).cells))
      (map task_row tasks.rows.items) (map job_row tasks.jobs) (slice_set (map job_row tasks.jobs) (m.constants.number - 1) (job_row new)) (counts_of tasks) h jobs in
      grind (arith, map-slice_set)
