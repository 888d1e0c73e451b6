-- A mark more on the running task's stack: the machine represents the session with it, the display as it was.
use Rattle.std.proofs.Common.{◌≡◌, ℕ, ◌+◌, ◌<◌, List, [], ◌∷◌, Some, refl, sym, ◌∙◌, ap, arith, subst, unwrap_or}
use Rattle.std.specs.List.{slice_get}
use Rattle.std.proofs.lemmas.Bool.{ne_eqb}
use Rattle.b67_word.specs.declared.couples.Place.{Place}
use Rattle.b67_lemmas.specs.Lists.{Has}
use Rattle.b67_lemmas.proofs.Members.{keyed_has}
use Rattle.b67_model.specs.State as State
use Rattle.b67_model.specs.Common.{Frame, Task, Job, SessionJob, OperatorContext, mcp, no_frame, frame, with_task, frame_at, IsSegment, SettingInOrder, TasksInOrder, Session}
use Rattle.b67_stack.specs.declared.Cpu.{Cpu}
use Rattle.b67_stack.specs.Common.{StackPlace, NoOriginalAboveTop, Storage, Represents, with_stack, new_mark}
use Rattle.b67_layout.specs.Common.{Placement, slot_of, spot_in, outer_spots, spots, address_of, stack_of_task, machine_view, with_job, IsRunning, ShowsDisplay, SessionHolds, RepresentsSession}
use Rattle.b67_layout.proofs.Common.{OnTop, seen-mark, running_only, IsFree, GoesOn, SessionHolds-mark, next_is_free, free-uncritical, still_running, outer-same}
use Rattle.b67_law.proofs.LowNames.{frame_at_same}
use Rattle.b67_layout.proofs.Names.{frame_past}

-- the mark of the next identity
abbrev pub next_mark : Job → Frame
next_mark job = record { identity = job.next_frame; standing = State.Marked; cells = [] }

-- the job with it on a task's frames
abbrev pub job_marked : Job → Task → Place → Job
job_marked job t q = with_task (record job { next_frame = job.next_frame + 1 }) (record t { frames = next_mark job ∷ t.frames; place = q })

module _ (x : Storage) (old new : Cpu) (plan : Placement) (s : Session) (m : SessionJob) (t : Task) (q : Place) (h : RepresentsSession x old plan s) (runs : IsRunning plan s.jobs m t)
    (unchanging : SettingInOrder m.constants) (g : TasksInOrder (IsSegment m.constants) m.constants m.progress.job)
    (same : (i : ℕ) → i < plan.stacks → slice_get new.core i ≡ slice_get old.core i) (on : GoesOn old.regs new.regs q) (display : new.display ≡ old.display) (critical : new.critical ≡ old.critical) where
  job : Job
  job = m.progress.job

  abbrev job' : Job
  job' = job_marked m.progress.job t q

  abbrev t' : Task
  t' = record t { frames = next_mark m.progress.job ∷ t.frames; place = q }

  has_t : Has m.progress.job.tasks t
  has_t = (keyed_has (λ (u : Task). u.number) t.number m.progress.job.tasks t runs.task).0

  free : IsFree m.progress.job m.progress.job.next_frame
  free = next_is_free (IsSegment m.constants) m.constants m.progress.job g t has_t

  top : OnTop m.progress.job job' t t' m.progress.job.next_frame
  top = record {
    there = runs.task;
    number = refl;
    critical = refl;
    parents = refl;
    tasks = refl;
    arrays = refl;
    some = free.some;
    uncritical = free.uncritical;
    same = λ c k o id ne. seen-mark (next_mark m.progress.job) t.frames c k o id ne;
  }

  abbrev before : OperatorContext
  before = record { constants = m.constants; job = m.progress.job; task = t; at = t.place }

  abbrev after : OperatorContext
  after = record { constants = m.constants; job = job'; task = t'; at = t'.place }

  frame_same : (id : ℕ) → id < m.progress.job.next_frame → frame after id ≡ frame before id
  frame_same id low = ap (λ o. unwrap_or o no_frame) (frame_past m.progress.job.next_frame (next_mark m.progress.job) (m.constants.dictionary ∷ mcp ∷ []) t.number t t' refl refl m.progress.job.tasks runs.task id (λ e. omega (arith, e, low)))

  shown : ShowsDisplay old.display plan (record m { progress = record m.progress { job = job' } }) t'
  shown n up =
      let f = frame_at_same (IsSegment m.constants) before unchanging g has_t after frame_same refl n in
      let id = (frame_at before n).identity in
      let there : spots plan m.constants.number job' t' id ≡ spots plan m.constants.number m.progress.job t id =
      (let o = outer_spots plan m.constants.number m.progress.job t.critical t.parents in
      ap (λ (o' : ℕ → StackPlace). spot_in (slot_of plan m.constants.number t.number) o' (next_mark m.progress.job ∷ t.frames) id) (outer-same [] x old.core new.core old.regs new.regs old.critical plan s m t h.holds runs job' (next_mark m.progress.job ∷ t.frames) t.segment q t.condition m.progress.job.next_frame top)
      ∙ rw (ne_eqb m.progress.job.next_frame id (λ e. omega (arith, e, f.1))) refl) in
      h.shows m t runs n up ∙ ap (λ (p : StackPlace). Some (address_of plan p)) (sym there) ∙ ap (λ (g' : Frame). Some (address_of plan (spots plan m.constants.number job' t' g'.identity))) (sym f.0)

  pub RepresentsSession-mark : Represents x new.core new.regs (with_stack (machine_view plan s.jobs) plan.running (new_mark ∷ stack_of_task plan m.constants.number m.progress.job plan.running t))
      → NoOriginalAboveTop (with_stack (machine_view plan s.jobs) plan.running (new_mark ∷ stack_of_task plan m.constants.number m.progress.job plan.running t))
      → RepresentsSession x new plan (with_job s m job')
  RepresentsSession-mark stands settled =
      let P : List ℕ → Type 0 = λ marks. SessionHolds x new.core new.regs marks plan (with_job s m job') in
      let holds = subst P (sym critical) (SessionHolds-mark x old.core new.core old.regs new.regs old.critical plan s m t q h.holds runs same on (record m.progress.job { next_frame = m.progress.job.next_frame + 1 }) m.progress.job.next_frame refl refl free (free-uncritical m.progress.job m.progress.job.next_frame free) stands settled) in
      let still = still_running [] x old.core new.core old.regs new.regs old.critical plan s m t h.holds runs job' (next_mark m.progress.job ∷ t.frames) t.segment q t.condition m.progress.job.next_frame top in
      let moved : SessionJob = record m { progress = record m.progress { job = job' } } in
      let D : List ℕ → Type 0 = λ d. ShowsDisplay d plan moved t' in
      record { holds = holds; shows = λ y u r. running_only plan (with_job s m job').jobs moved y t' u (ShowsDisplay new.display plan) holds.fits.rows still r (subst D (sym display) shown) }
