-- A task is started: its slot is opened, its stack built, its row added.
use Rattle.std.proofs.Common.{◌≡◌, ℕ, ◌+◌, ◌-◌, ◌*◌, ◌<◌, ◌≤◌, List, [], ◌∷◌, ◌++◌, length, Option, Some, refl, sym, ◌∙◌, ap, arith, subst, slice_set}
use Rattle.std.specs.Prelude.{max}
use Rattle.std.specs.List.{slice_get}
use Rattle.b67_word.specs.declared.couples.Place.{Place}
use Rattle.b67_area.specs.declared.Areas.{Areas}
use Rattle.b67_backing.specs.Shelf.{Table, IsShelf}
use Rattle.b67_lemmas.specs.Lists.{Has, total}
use Rattle.b67_lemmas.proofs.Members.{keyed_has}
use Rattle.b67_lemmas.proofs.Sums.{sum_total, total_gap}
use Rattle.b67_model.specs.Common.{Frame, Task, SessionJob, height, Proc, live_tasks, number_of, Session}
use Rattle.b67_law.proofs.Numbered.{numbered_low}
use Rattle.b67_layout.specs.Common.{IsInOrderButCounts, Placement, spots, IsRunning, RepresentsSession, RepresentsStorage, stack_of_task, IsReady, peak_with, session_moved}
use Rattle.b67_stack.specs.declared.Cpu.{Cpu}
use Rattle.b67_stack.specs.Common.{mark_place, Storage}
use Rattle.b67_stack.specs.Changes as Changes
use Rattle.b67_layout.proofs.Fresh.{job_in_order}
use Rattle.b67_refer.specs.Cells.{IsCellAt}
use Rattle.b67_refer.specs.Ends.{IsProcAt}
use Rattle.b67_refer.specs.RunningContext.{RunningContext}
use Rattle.b67_refer.proofs.Scenes.{member_in_order}
use Rattle.b67_task.specs.declared.tables.JobRow.{JobRow}
use Rattle.b67_task.specs.declared.tables.TaskRow.{TaskRow}
use Rattle.b67_task.specs.declared.tables.Tasks.{Tasks}
use Rattle.b67_task.specs.declared.tables.Machine.{Machine}
use Rattle.b67_task.specs.Tables.{state_of, task_row, MachineRepresents}
use Rattle.b67_task.specs.Born.{with_peak, with_task_at}
use Rattle.b67_task.specs.Joining.{MayBuild, session_joined}
use Rattle.b67_task.specs.Opening.{HasSlot, SlotOpened}
use Rattle.b67_task.specs.Starts.{IsProcCell, MayStart, IsStarted, child, with_child, with_next}
use Rattle.b67_task.proofs.Opens.{not_past, peak_rises}
use Rattle.b67_task.proofs.Rows.{JobRowOf, job_row_of, rows_few, tables_started}
use Rattle.b67_task.proofs.Starting.{Two, IsPcwAt, found_cell, frames, joins, may_build, pcw, row_shows}
use Rattle.b67_task.proofs.Started.{under_place}

fifteens : (jobs : List SessionJob) → total (λ (y : SessionJob). 15) jobs ≡ 15 * length jobs
fifteens [] = refl
fifteens (y ∷ ys) = omega (arith, fifteens ys)

module _ (x : Storage) (cpu : Cpu) (plan : Placement) (s : Session) (m : SessionJob) (t : Task) (o : IsInOrderButCounts s) (h : RepresentsSession x cpu plan s) (runs : IsRunning plan s.jobs m t)
    (core at count f segment level : ℕ) (place : Place) (k : ℕ) (may : MayStart x plan m t core at count f segment level place k) where
  has_m : Has s.jobs m
  has_m = (keyed_has number_of m.constants.number s.jobs m runs.member).0

  live_low : live_tasks s.jobs < 120
  live_low =
      let n = total_gap (λ (y : SessionJob). length y.progress.job.tasks) (λ (y : SessionJob). 15) s.jobs m 1 (λ y i. (job_in_order s y o i).tasks.few) has_m (omega (arith, may.few)) in
      omega (arith, n, sum_total (λ (y : SessionJob). length y.progress.job.tasks) s.jobs, fifteens s.jobs, o.few)

  pub has_slot : HasSlot x plan s core k
  has_slot = grind (arith, live_low, has_m)

  pub opened_order : IsInOrderButCounts (record s { peak = peak_with s 1 })
  opened_order = grind (arith, live_low)

  pub opened_runs : IsRunning (with_peak plan (peak_with s 1)) s.jobs m t
  opened_runs = record { member = runs.member; task = runs.task; slot = runs.slot }

  pub below_peak : k < peak_with s 1
  below_peak = grind (arith, not_past, peak_rises)

  pub peak_wider : plan.peak ≤ peak_with s 1
  peak_wider = (let e : plan.peak ≤ max s.peak (live_tasks s.jobs + 1) = omega (arith, h.holds.fits.peak) in e)

  pub opened_proc : IsProcCell (with_peak plan (peak_with s 1)) m t at f segment level place
  opened_proc = grind arith

  -- the child may be built once its slot is open
  pub opened_build : (y : Storage) (now : Cpu) (z : RepresentsSession y now (with_peak plan (peak_with s 1)) (record s { peak = peak_with s 1 })) (j env_stack env_disp : ℕ) → m.constants.number ≡ j
      → spots (with_peak plan (peak_with s 1)) m.constants.number m.progress.job t f ≡ record { stack = env_stack; disp = env_disp }
      → MayBuild y now (with_peak plan (peak_with s 1)) (record s { peak = peak_with s 1 }) m t (with_child m.progress.job (child m t count f segment level place)) (child m t count f segment level place) k j env_stack env_disp level count
  opened_build y now z j env_stack env_disp job_is spot_is =
      may_build y now (with_peak plan (peak_with s 1)) (record s { peak = peak_with s 1 }) m t opened_order z opened_runs at count f segment level place opened_proc may.marked may.enough may.plain may.room k j env_stack env_disp may.lowest.free below_peak job_is spot_is

  -- what isn't core is as the slot's opening left it
  pub opened_storage : (areas areas' : Areas) (table : Table) (told : Option (List (List ℕ))) (now : Cpu) (new : Cpu) (op : SlotOpened x plan s now areas') → RepresentsStorage areas table told cpu.core x
      → areas' ≡ record areas { low = areas'.low } → length now.core ≡ length cpu.core → length new.core ≡ length now.core → RepresentsStorage areas' table told new.core op.storage
  opened_storage areas areas' table told now new op r e len len' = record {
    low = op.low;
    size = ap (λ (a : Areas). a.size) e ∙ r.size ∙ sym (len' ∙ len);
    shelf = subst (IsShelf table) (sym op.shelf) r.shelf;
    device = r.device ∙ sym op.device;
  }

module _ (x : Storage) (told : Option (List (List ℕ))) (k : Machine) (plan : Placement) (s : Session) (m : SessionJob) (t : Task) (o : IsInOrderButCounts s) (h : MachineRepresents x told k plan s) (runs : IsRunning plan s.jobs m t)
    (at count f segment level : ℕ) (place : Place) (slot : ℕ) (may : MayStart x plan m t (length k.cpu.core) at count f segment level place slot) where
  abbrev new : Task
  new = child m t count f segment level place

  pub may_open : HasSlot x plan s (length k.cpu.core) slot
  may_open = has_slot x k.cpu plan s m t o h.session runs (length k.cpu.core) at count f segment level place slot may

  pub proc : IsProcCell (with_peak plan (peak_with s 1)) m t at f segment level place
  proc = opened_proc x k.cpu plan s m t o h.session runs (length k.cpu.core) at count f segment level place slot may

  pub order : IsInOrderButCounts (record s { peak = peak_with s 1 })
  order = opened_order x k.cpu plan s m t o h.session runs (length k.cpu.core) at count f segment level place slot may

  pub still : IsRunning (with_peak plan (peak_with s 1)) s.jobs m t
  still = opened_runs x k.cpu plan s m t o h.session runs (length k.cpu.core) at count f segment level place slot may

  pub job_row : JobRowOf k.tasks m
  job_row = job_row_of k.tasks plan s m o.numbered h.tables (keyed_has number_of m.constants.number s.jobs m runs.member).0

  pub first_job : 1 ≤ m.constants.number
  first_job = numbered_low 1 s.jobs m o.numbered (keyed_has number_of m.constants.number s.jobs m runs.member).0

  pub row_room : length k.tasks.rows.items < 120
  row_room = omega (arith, rows_few k.tasks plan s x k.cpu o h.session h.tables, may_open.few)

  module _ (now : Cpu) (areas' : Areas) (op : SlotOpened x plan s now areas') where
    -- what the new machine shows of the procedure
    abbrev pub seen : RunningContext now.core now.regs
    seen = record { left = []; storage = op.storage; marks = now.critical; plan = with_peak plan (peak_with s 1); session = record s { peak = peak_with s 1 }; member = m; task = t; ordered = member_in_order s m o (keyed_has number_of m.constants.number s.jobs m runs.member).0; holds = op.stands.holds; running = opened_runs x k.cpu plan s m t o h.session runs (length k.cpu.core) at count f segment level place slot may }

    pub seen_procedure : IsProcAt seen t.place at f segment level place
    seen_procedure = record {
      own = proc.own;
      offset = proc.offset;
      cell = subst (λ (n : ℕ). IsCellAt seen t.place n f proc.offset (Proc segment level place)) (sym proc.at_is) (found_cell now.core now.regs seen t.place f proc.offset (Proc segment level place) proc.names proc.own proc.found);
    }

    pub seen_pcw : IsPcwAt op.storage now (with_peak plan (peak_with s 1)) (record s { peak = peak_with s 1 }) m t order op.stands still at count f segment level place proc
    seen_pcw = pcw op.storage now (with_peak plan (peak_with s 1)) (record s { peak = peak_with s 1 }) m t order op.stands still at count f segment level place proc

    pub may_child : (free job env_stack env_disp lev : ℕ) → free ≡ slot → m.constants.number ≡ job → spots (with_peak plan (peak_with s 1)) m.constants.number m.progress.job t f ≡ record { stack = env_stack; disp = env_disp } → lev ≡ level
        → MayBuild op.storage now (with_peak plan (peak_with s 1)) (record s { peak = peak_with s 1 }) m t (with_child m.progress.job new) new free job env_stack env_disp lev count
    may_child free job env_stack env_disp lev e job_is spot_is level_is =
        let M : ℕ → ℕ → Type 0 = λ n l. MayBuild op.storage now (with_peak plan (peak_with s 1)) (record s { peak = peak_with s 1 }) m t (with_child m.progress.job new) new n job env_stack env_disp l count in
        subst (M free) (sym level_is) (subst (λ (n : ℕ). M n level) (sym e)
        (opened_build x k.cpu plan s m t o h.session runs (length k.cpu.core) at count f segment level place slot may op.storage now op.stands job env_stack env_disp job_is spot_is))

    module _ (free job env_stack env_disp lev : ℕ) (b : MayBuild op.storage now (with_peak plan (peak_with s 1)) (record s { peak = peak_with s 1 }) m t (with_child m.progress.job new) new free job env_stack env_disp lev count) (is : free ≡ slot) where
      abbrev pub two_frames : Two t.frames
      two_frames = frames x k.cpu plan s m t o h.session runs at count f segment level place may.proc may.marked

      under_same : (call call' under under' : Frame) (below below' : List Frame) → (call ∷ under ∷ below) ≡ (call' ∷ under' ∷ below') → below ≡ below'
      under_same call call' under under' below below' e = cc

      pub critical_is : (under : ℕ) → under ≡ mark_place (Changes.activations_below (stack_of_task (with_peak plan (peak_with s 1)) m.constants.number m.progress.job plan.running t)) → under ≡ height two_frames.below
      critical_is under e =
          e ∙ under_place op.storage now (with_peak plan (peak_with s 1)) (record s { peak = peak_with s 1 }) m t (with_child m.progress.job new) new free b.ordered b.stands b.running b.joins b.calls
          ∙ ap height (under_same b.calls.call two_frames.call b.calls.under two_frames.under b.calls.below two_frames.below (sym b.calls.frames ∙ two_frames.is))

      pub started : (built : Cpu) (tasks' : Tasks) (row : TaskRow)
          → RepresentsSession op.storage built (with_task_at (with_peak plan (peak_with s 1)) m.constants.number new.number free (peak_with s 1)) (session_joined (with_peak plan (peak_with s 1)) (record s { peak = peak_with s 1 }) m (with_child m.progress.job new))
          → areas' ≡ record k.areas { low = areas'.low } → length now.core ≡ length k.cpu.core → length built.core ≡ length now.core
          → row.job ≡ m.constants.number → row.number ≡ m.progress.job.next_task → row.slot ≡ free → row.parent ≡ plan.running → row.critical ≡ height two_frames.below → state_of row.state ≡ IsReady → row.segment ≡ segment + 1 → row.place ≡ place
          → tasks'.rows.items ≡ k.tasks.rows.items ++ row ∷ [] → ((r : JobRow) → slice_get k.tasks.jobs (row.job - 1) ≡ Some r → tasks'.jobs ≡ slice_set k.tasks.jobs (row.job - 1) (with_next r)) → tasks' ≡ record k.tasks { rows = tasks'.rows; jobs = tasks'.jobs }
          → IsStarted told plan s m new slot (record k { cpu = built; areas = areas'; tasks = tasks' })
      started built tasks' row session areas_are len len' job_is number_is slot_is parent_is critical state segment_is place_is rows_are jobs_are rest =
          let P = peak_with s 1 in
          let below = below_peak x k.cpu plan s m t o h.session runs (length k.cpu.core) at count f segment level place slot may in
          let wider = peak_wider x k.cpu plan s m t o h.session runs (length k.cpu.core) at count f segment level place slot may in
          let j = joins x k.cpu plan s m t o h.session runs at count f segment level place may.proc slot P may.lowest.free below wider in
          let shows = row_shows x k.cpu plan s m t o h.session runs at count f segment level place may.proc may.marked slot P j (task_row row) job_is number_is (slot_is ∙ is) parent_is critical state segment_is place_is in
          record {
            storage = op.storage;
            stands = record {
              session = subst (λ (n : ℕ). RepresentsSession op.storage built (with_task_at plan m.constants.number new.number n P) (session_moved s m (with_child m.progress.job new) 1)) is session;
              storage = opened_storage x k.cpu plan s m t o h.session runs (length k.cpu.core) at count f segment level place slot may k.areas areas' k.sectors told now built op h.storage areas_are len len';
              tables = tables_started k.tasks tasks' plan s m t new slot x k.cpu o h.session h.tables runs j row job_is (slot_is ∙ is) shows rows_are jobs_are rest;
            };
          }
