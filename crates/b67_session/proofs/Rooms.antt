-- One operator more fits the counts after it was made, and which row is the running task's.
use Rattle.std.proofs.Common.{◌≡◌, ℕ, ◌+◌, ◌<◌, ◌≤◌, ◌^◌, List, [], ◌∷◌, inl, inr, map, Option, Some, None, refl, sym, ap, ◌∙◌, subst, arith}
use Rattle.std.specs.List.{AllByRecursion, slice_get}
use Rattle.std.proofs.lemmas.List.{length-map}
use Rattle.b67_lemmas.specs.Lists.{Has}
use Rattle.b67_lemmas.proofs.Members.{has_get, has_map, keyed_has}
use Rattle.b67_lemmas.proofs.Places.{mapped_at}
use Rattle.b67_model.specs.Common.{Task, SessionJob, Session, number_of, IsSegment, JobInOrder, NumberedFrom, IsInOrderButPlaces}
use Rattle.b67_law.proofs.Numbered.{keyed_member, numbered_low}
use Rattle.b67_stack.specs.declared.Cpu.{Cpu}
use Rattle.b67_stack.specs.Represents.{Storage}
use Rattle.b67_layout.specs.Common.{Placement, IsInOrderButCounts, RunningRow, TaskShows, JobsShow, IsRunning, RepresentsSession}
use Rattle.b67_layout.specs.Rows as rows
use Rattle.b67_layout.proofs.Common.{slot_below, running_only, job_at, live_in_order}
use Rattle.b67_task.specs.declared.tables.JobRow.{JobRow}
use Rattle.b67_task.specs.declared.tables.Tasks.{Tasks}
use Rattle.b67_task.specs.Tables.{task_row, job_row, TasksShow}
use Rattle.b67_task.specs.RowOf.{IsRowOf}
use Rattle.b67_task.specs.declared.counting.Chosen.{Chosen}
use Rattle.b67_task.specs.Counted.{CountsHaveRoom}
use Rattle.b67_model.specs.declared.limits.TheConstants.{MOST_LIMIT, MOST_MADE}

-- the tables show some session with a job of these counts
pub room_for : (plan : Placement) (shown : Session) (y : SessionJob) (tasks : Tasks) (c : Chosen) → NumberedFrom 1 shown.jobs → TasksShow plan shown tasks → Has shown.jobs y → y.constants.number ≡ c.job
    → y.progress.made ≤ MOST_LIMIT → shown.made ≤ MOST_MADE → c.turn + 1 < 2 ^ 32 → CountsHaveRoom tasks c
room_for plan shown y tasks c numbered shows among number few all turn = grind (arith, job_at, mapped_at, numbered_low, length-map)

-- each job's next task can be numbered
numbers_by : (plan : Placement) (jobs : List SessionJob) (shown : List rows.JobRow) → JobsShow plan jobs shown → AllByRecursion (λ (y : SessionJob). JobInOrder (IsSegment y.constants) y.constants y.progress) jobs
    → (r : rows.JobRow) → Has shown r → r.next_task + 1 < 2 ^ 32
numbers_by plan [] [] shows all r h = absurd h
numbers_by plan [] (q ∷ shown) shows all r h = absurd shows
numbers_by plan (y ∷ jobs) [] shows all r h = absurd h
numbers_by plan (y ∷ jobs) (q ∷ shown) shows all r (inl same) = grind arith
numbers_by plan (y ∷ jobs) (q ∷ shown) shows all r (inr later) = numbers_by plan jobs shown shows.1 all.1 r later

pub can_number : (plan : Placement) (s : Session) (tasks : Tasks) → IsInOrderButPlaces s → TasksShow plan s tasks → (r : JobRow) → Has tasks.jobs r → r.next_task + 1 < 2 ^ 32
can_number plan s tasks o shows r h = numbers_by plan s.jobs (map job_row tasks.jobs) shows.jobs o.jobs (job_row r) (has_map job_row tasks.jobs r h)

-- the row of the running task
pub running_row : (x : Storage) (cpu : Cpu) (tasks : Tasks) (plan : Placement) (s : Session) (m : SessionJob) (t : Task) (at : ℕ) → IsInOrderButCounts s → RepresentsSession x cpu plan s → TasksShow plan s tasks → IsRunning plan s.jobs m t → tasks.running ≡ at
    → IsRowOf plan s tasks.rows.items at m t
running_row x cpu tasks plan s m t at o h shows runs here = by (slice_get (map task_row tasks.rows.items) tasks.running) refl shows.counts.running
  where
    inm : Has s.jobs m
    inm = (keyed_has number_of m.constants.number s.jobs m runs.member).0

    int : Has m.progress.job.tasks t
    int = (keyed_has (λ (u : Task). u.number) t.number m.progress.job.tasks t runs.task).0

    low : plan.running < 120
    low = let below = slot_below plan s.jobs m t h.holds.fits.rows inm int in omega (arith, below, runs.slot, h.holds.fits.few)

    by : (q : Option rows.TaskRow) → slice_get (map task_row tasks.rows.items) tasks.running ≡ q → RunningRow plan q tasks.running → IsRowOf plan s tasks.rows.items at m t
    by None e r = absurd (omega (arith, low, r.1))
    by (Some row) e r =
        let (found, there, same) = mapped_at task_row tasks.rows.items tasks.running row e in
        let (y, u, iny, inu, w) = shows.tasks row (has_get (map task_row tasks.rows.items) tasks.running row e) in
        let running : IsRunning plan s.jobs y u = record { member = keyed_member 1 s.jobs y o.numbered iny; task = live_in_order s y u o iny inu; slot = sym r.1 ∙ w.slot } in
        let is : TaskShows plan m t row = running_only plan s.jobs y m u t (λ (z : SessionJob) (v : Task). TaskShows plan z v row) h.holds.fits.rows running runs w in
        record {
          row = found;
          there = ap (slice_get tasks.rows.items) (sym here) ∙ there;
          member = inm;
          task = int;
          shows = subst (TaskShows plan m t) (sym same) is;
        }
