-- The row of the running task.
use Rattle.std.proofs.Common.{◌≡◌, ◌<◌, map, Option, Some, None, refl, sym, ◌∙◌, ap, arith}
use Rattle.std.specs.List.{slice_get}
use Rattle.b67_model.specs.Common.{Task, SessionJob, number_of, Session}
use Rattle.b67_layout.specs.Common.{IsInOrderButCounts, Placement, RunningRow, IsRunning, RepresentsSession}
use Rattle.b67_stack.specs.declared.Cpu.{Cpu}
use Rattle.b67_stack.specs.Represents.{Storage}
use Rattle.b67_layout.specs.Rows as rows
use Rattle.b67_layout.proofs.Common.{slot_below, running_only, live_in_order}
use Rattle.b67_task.specs.declared.tables.TaskRow.{TaskRow}
use Rattle.b67_task.specs.declared.tables.Tasks.{Tasks}
use Rattle.b67_task.specs.Tables.{task_row, TasksShow}
use Rattle.b67_lemmas.proofs.Members.{has_get, keyed_has}
use Rattle.b67_lemmas.proofs.Places.{mapped_at}
use Rattle.b67_law.proofs.Numbered.{keyed_member}

pub record RowOf (tasks : Tasks) (m : SessionJob) (t : Task) : Type 0 where
  pub row : TaskRow
  pub at : slice_get tasks.rows.items tasks.running ≡ Some row
  pub job : row.job ≡ m.constants.number
  pub number : row.number ≡ t.number

pub row_of : (x : Storage) (cpu : Cpu) (tasks : Tasks) (plan : Placement) (s : Session) (m : SessionJob) (t : Task) → IsInOrderButCounts s → RepresentsSession x cpu plan s → TasksShow plan s tasks → IsRunning plan s.jobs m t → RowOf tasks m t
row_of x cpu tasks plan s m t o h shows runs = by (slice_get (map task_row tasks.rows.items) tasks.running) refl shows.counts.running
  where
    low : plan.running < 120
    low =
        let below = slot_below plan s.jobs m t h.holds.fits.rows (keyed_has number_of m.constants.number s.jobs m runs.member).0 (keyed_has (λ (u : Task). u.number) t.number m.progress.job.tasks t runs.task).0 in
        omega (arith, below, runs.slot, h.holds.fits.few)

    by : (q : Option rows.TaskRow) → slice_get (map task_row tasks.rows.items) tasks.running ≡ q → RunningRow plan q tasks.running → RowOf tasks m t
    by None e r = absurd (omega (arith, low, r.1))
    by (Some row) e r =
        let (found, at, same) = mapped_at task_row tasks.rows.items tasks.running row e in
        let (y, u, iny, inu, w) = shows.tasks row (has_get (map task_row tasks.rows.items) tasks.running row e) in
        let running : IsRunning plan s.jobs y u = record { member = keyed_member 1 s.jobs y o.numbered iny; task = live_in_order s y u o iny inu; slot = sym r.1 ∙ w.slot } in
        let P : SessionJob → Task → Type 0 = λ z v. (row.job ≡ z.constants.number) × (row.number ≡ v.number) in
        let is = running_only plan s.jobs y m u t P h.holds.fits.rows running runs (w.job, w.number) in
        record { row = found; at = at; job = ap (λ (z : rows.TaskRow). z.job) same ∙ is.0; number = ap (λ (z : rows.TaskRow). z.number) same ∙ is.1 }
