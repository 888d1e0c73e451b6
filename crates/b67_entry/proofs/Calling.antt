-- The word that is returned leads to a procedure, which is entered in the state without the frame.
use Rattle.std.proofs.Common.{◌≡◌, ◌≢◌, ℕ, ◌+◌, ◌≤◌, List, [], ◌∷◌, Some, None, Ok, Err, refl, sym, ◌∙◌, ap, arith, Bool, true, false, inl, inr, subst}
use Rattle.std.specs.Prelude.{◌==◌, if◌then◌else◌}
use Rattle.std.proofs.lemmas.Bool.{cases_eq}
use Rattle.b67_word.specs.declared.couples.Place.{Place}
use Rattle.b67_word.specs.declared.faults.Fault.{Fault}
use Rattle.b67_word.specs.declared.faults.Fault.TheVariants.{InvalidOperand}
use Rattle.b67_model.specs.Common.{Answer, ◌>>=◌, Word, Return, Ready, Frame, Condition, Task, Job, OperatorContext, SessionJob, frame, head_words, height, with_top_cells, with_task, level_of_frame, AtProc, follow, accident, back_to, evaluates, returned, Done, Goes, cells_of, without_arrays_of, Session}
use Rattle.b67_lemmas.specs.Lists.{Has}
use Rattle.b67_lemmas.proofs.Members.{change_twice, change_found, keyed_has}
use Rattle.b67_model.specs.State as State
use Rattle.b67_model.specs.Chase as Chase
use Rattle.b67_layout.specs.Common.{IsInOrderButCounts, Placement, machine_view, IsRunning, RepresentsSession, RepresentsSessionBut, IsMade, Meets, with_job}
use Rattle.b67_stack.specs.declared.Cpu.{Cpu}
use Rattle.b67_stack.specs.declared.Step.{Step}
use Rattle.b67_stack.specs.declared.Step.TheVariants as step
use Rattle.b67_stack.specs.Common.{PagedObject, Storage, RepresentsRunning}
use Rattle.b67_stack.proofs.Slots.{running_slot}
use Rattle.b67_layout.proofs.Common.{member-same, IsFree, change-has, fresh, running_in_order, with_job-twice, RepresentsSession-condition}
use Rattle.b67_refer.specs.Ends.{IsProcAt}
use Rattle.b67_entry.specs.Procedures.{CanEnter, RecordEntered, EntersOrFaults}
use Rattle.b67_layout.proofs.Objects.{objects-after}
use Rattle.b67_entry.proofs.Returned.{clear_mark, clear_return}
use Rattle.b67_layout.proofs.Leaves.{task_at}
use Rattle.b67_entry.specs.Left.{Returns, here_left}
use Rattle.b67_law.proofs.Follows.{frame_same}
use Rattle.b67_entry.proofs.Leaving.{under, on_top, on_stack, may_return, regs_left, job_at, member_at, task_left}
use Rattle.b67_entry.proofs.Evaluating.{scene, seen, frames_same, answer_is}
use Rattle.b67_law.proofs.Maps.{IsOperand}

-- an accidental entry by whether the procedure's level is the next one
accident_at : (h : OperatorContext) (cells : List Word) (back : Return) (f segment level : ℕ) (place : Place) (b : Bool) → (level_of_frame (frame h f) + 1 == level) ≡ b
    → (let fs = record { identity = h.job.next_frame; standing = State.Entered level f (Some back); cells = [] } ∷ with_top_cells h.task.frames cells in
    height fs ≤ h.constants.stack_size
    → accident h cells back (AtProc f segment level place) ≡ (if b then Ok (Goes (with_task (record h.job { next_frame = h.job.next_frame + 1 }) (record h.task { frames = fs; segment = segment; place = place })) [] None) else Err InvalidOperand))
accident_at h cells g f segment level place b e low = grind arith

module _ (x : Storage) (old : Cpu) (plan : Placement) (s : Session) (m : SessionJob) (t : Task) (o : IsInOrderButCounts s) (h : RepresentsSession x old plan s) (runs : IsRunning plan s.jobs m t) (a : Returns m t)
    (cell f segment level : ℕ) (place : Place) (p : IsProcAt (scene x old plan s m t o h runs a) a.back.place cell f segment level place) where
  stack_is : RepresentsRunning old.regs (machine_view plan s.jobs) old.regs.slot (on_top x old plan s m t o h runs a ∷ under x old plan s m t o h runs a)
  stack_is = running_slot x old.core old.regs (machine_view plan s.jobs) old.regs.slot (on_top x old plan s m t o h runs a ∷ under x old plan s m t o h runs a) h.holds.memory (on_stack x old plan s m t o h runs a)

  pub can_enter : CanEnter old (regs_left x old plan s m t o h runs a) (scene x old plan s m t o h runs a) a.back.place cell f segment level place
  can_enter = record {
    slot = refl;
    marks = refl;
    clear = λ room u k.
        (let there = (objects-after plan s.jobs m (record m.progress { job = job_at x old plan s m t o h runs a Ready }) a.f.identity m.progress.job.next_array runs.member (running_in_order plan s m t o runs).0.tasks.names refl).back u k in
        let one = clear_mark x old.core old.regs (machine_view plan s.jobs) old.regs.slot (on_top x old plan s m t o h runs a) _ _ a.level _ a.back h.holds.memory (on_stack x old plan s m t o h runs a) (may_return x old plan s m t o h runs a).entered u there in
        let two = clear_return x old.core old.regs (machine_view plan s.jobs) old.regs.slot (on_top x old plan s m t o h runs a) _ _ a.level _ a.back h.holds.memory (on_stack x old plan s m t o h runs a) (may_return x old plan s m t o h runs a).entered u there in
        (λ e. one (omega (arith, e, stack_is.first)), λ e. two (omega (arith, e, stack_is.first))));
    procedure = p;
  }

  -- the frame that is entered, and the frames with it
  abbrev back : Return
  back = record { value = true; segment = a.back.segment; place = a.back.place }

  abbrev frames_on : List Frame
  frames_on = record { identity = m.progress.job.next_frame; standing = State.Entered level f (Some back); cells = [] } ∷ a.next ∷ a.more

  -- the job with one identity more, and the task that goes on in the procedure
  abbrev without : Job
  without = record (without_arrays_of a.f.identity m.progress.job) { next_frame = m.progress.job.next_frame + 1 }

  abbrev task_on : Condition → Task
  task_on d = task_at t frames_on segment place d

  abbrev job_on : Condition → Job
  job_on d = with_task without (task_on d)

  some_head : height frames_on ≤ m.constants.stack_size
  some_head =
      let two : head_words a.f.standing ≡ 2 = ap head_words a.entered in
      let lower : height (a.next ∷ a.more) + 2 ≤ height t.frames = subst (λ (fs : List Frame). height (a.next ∷ a.more) + 2 ≤ height fs) (sym a.frames) (omega (arith, two)) in
      omega (arith, lower, (running_in_order plan s m t o runs).1.not_higher)

  -- its row for a task that is ready, and for the task as it is
  ready_row : Answer Done
  ready_row = accident (seen x old plan s m t o h runs a) (cells_of (seen x old plan s m t o h runs a)) (back_to (seen x old plan s m t o h runs a) true a.back.place) (AtProc f segment level place)

  twice : (d e : Condition) → with_task (record (job_at x old plan s m t o h runs a d) { next_frame = m.progress.job.next_frame + 1 }) (task_on e) ≡ job_on e
  twice d e = ap (λ (ts : List Task). record without { tasks = ts }) (change_twice (λ (u : Task). u.number) t.number (task_left x old plan s m t o h runs a d) (task_on e) m.progress.job.tasks refl)

  by_level : (d : Condition) (b : Bool) → (level_of_frame (frame (seen x old plan s m t o h runs a) f) + 1 == level) ≡ b
      → accident (here_left m t a) (cells_of (here_left m t a)) back (AtProc f segment level place) ≡ (if b then Ok (Goes (job_on t.condition) [] None) else Err InvalidOperand)
  by_level d b e =
      let here_level : (level_of_frame (frame (here_left m t a) f) + 1 == level) ≡ b = ap (λ (g : Frame). level_of_frame g + 1 == level) (frame_same (here_left m t a) (seen x old plan s m t o h runs a) (frames_same x old plan s m t o h runs a) refl f) ∙ e in
      accident_at (here_left m t a) (cells_of (here_left m t a)) back f segment level place b here_level some_head
      ∙ ap (λ (j : Job). if b then Ok (Goes j [] None) else Err InvalidOperand) (twice t.condition t.condition)

  ready_level : (b : Bool) → (level_of_frame (frame (seen x old plan s m t o h runs a) f) + 1 == level) ≡ b → ready_row ≡ (if b then Ok (Goes (job_on Ready) [] None) else Err InvalidOperand)
  unfolding ready_row
  ready_level b e = accident_at (seen x old plan s m t o h runs a) (cells_of (seen x old plan s m t o h runs a)) back f segment level place b e some_head
      ∙ ap (λ (j : Job). if b then Ok (Goes j [] None) else Err InvalidOperand) (twice Ready Ready)

  -- the session that was entered, seen with a ready task
  abbrev member_on : Condition → SessionJob
  member_on d = record m { progress = record m.progress { job = job_on d } }

  session_same : (j : Job) → with_job (with_job s m (job_at x old plan s m t o h runs a Ready)) (member_at x old plan s m t o h runs a Ready) j ≡ with_job s m j
  session_same j = with_job-twice s m (job_at x old plan s m t o h runs a Ready) j

  free : IsFree m.progress.job m.progress.job.next_frame
  free = fresh plan s m t o runs

  in_t : Has m.progress.job.tasks t
  in_t = (keyed_has (λ (u : Task). u.number) t.number m.progress.job.tasks t runs.task).0

  running_on : (d : Condition) → IsRunning plan (with_job s m (job_on d)).jobs (member_on d) (task_on d)
  running_on d = record {
    member = member-same s.jobs m.constants.number (record m.progress { job = job_on d }) m runs.member;
    task = change_found (λ (u : Task). u.number) t.number t (task_on d) m.progress.job.tasks refl runs.task;
    slot = runs.slot;
  }

  free_on : IsFree (job_on Ready) m.progress.job.next_frame
  free_on = record {
    some = free.some;
    uncritical = λ u k. elim (change-has (λ (v : Task). v.number) t.number (λ (v : Task). task_on Ready) m.progress.job.tasks t runs.task u k) [
      | inl i ↦ free.uncritical u i
      | inr e ↦ subst (λ (v : Task). v.critical ≢ m.progress.job.next_frame) (sym e) (free.uncritical t in_t)
    ];
  }

  -- the session as it is then
  waits : (left : List PagedObject) (new : Cpu) → RepresentsSessionBut left x new plan (with_job s m (job_on Ready)) → RepresentsSessionBut left x new plan (with_job s m (job_on t.condition))
  waits left new stands = RepresentsSession-condition left x new plan s m without (task_on Ready) Ready t.condition m.progress.job.next_frame stands (running_on Ready) free_on

  module _ (v : Word) (not_operand : IsOperand v → ⊥) (is : follow (seen x old plan s m t o h runs a) v ≡ Ok (AtProc f segment level place)) where
    answer : (b : Bool) → (level_of_frame (frame (seen x old plan s m t o h runs a) f) + 1 == level) ≡ b → returned (here_left m t a) v true ≡ (if b then Ok (Goes (job_on t.condition) [] None) else Err InvalidOperand)
    answer b e = answer_is x old plan s m t o h runs a v not_operand ∙ ap (λ (z : Answer Chase.End). z >>= evaluates (here_left m t a)) is ∙ by_level Ready b e

    -- it was entered
    entered : (new : Cpu) (b : Bool) → (level_of_frame (frame (seen x old plan s m t o h runs a) f) + 1 == level) ≡ b → RecordEntered (scene x old plan s m t o h runs a) new ready_row → IsMade x plan s m old new (returned (here_left m t a) v true)
    entered new false e i = absurd (let z : Err InvalidOperand ≡ Ok (Goes i.job [] None) = sym (ready_level false e) ∙ i.is in let y : ⊥ = cc in y)
    entered new true e i =
        let both : Ok (Goes (job_on Ready) [] None) ≡ Ok (Goes i.job [] None) = sym (ready_level true e) ∙ i.is in
        let job_is : i.job ≡ job_on Ready = cc in
        let P : Job → Type 0 = λ j. RepresentsSessionBut (scene x old plan s m t o h runs a).left x new plan (with_job (with_job s m (job_at x old plan s m t o h runs a Ready)) (member_at x old plan s m t o h runs a Ready) j) in
        let Q : Session → Type 0 = λ z. RepresentsSessionBut (scene x old plan s m t o h runs a).left x new plan z in
        let stands : RepresentsSessionBut (scene x old plan s m t o h runs a).left x new plan (with_job s m (job_on Ready)) = subst Q (session_same (job_on Ready)) (subst P job_is i.stands) in
        record {
          job = job_on t.condition;
          touched = None;
          is = answer true e;
          present = tt;
          stands = waits (scene x old plan s m t o h runs a).left new stands;
          changed = λ k. elim (cases_eq k ((regs_left x old plan s m t o h runs a).s + 1)) [
            | inl q ↦ inr (inl (omega (arith, q, i.low), omega (arith, q, i.room)))
            | inr n ↦ elim (cases_eq k ((regs_left x old plan s m t o h runs a).s + 2)) [
              | inl q ↦ inr (inl (omega (arith, q, i.low), omega (arith, q, i.room)))
              | inr n2 ↦ inl (i.changed k n n2)
            ]
          ];
        }

    refused : (fault : Fault) (b : Bool) → (level_of_frame (frame (seen x old plan s m t o h runs a) f) + 1 == level) ≡ b → ready_row ≡ Err fault → returned (here_left m t a) v true ≡ Err fault
    refused fault false e r = let z : Err InvalidOperand ≡ Err fault = sym (ready_level false e) ∙ r in answer false e ∙ (let y : InvalidOperand ≡ fault = cc in ap Err y)
    refused fault true e r = absurd (let z : Ok (Goes (job_on Ready) [] None) ≡ Err fault = sym (ready_level true e) ∙ r in let y : ⊥ = cc in y)

    pub proc_meets : (answered : Step) (new : Cpu) → EntersOrFaults (scene x old plan s m t o h runs a) answered old new (accident (seen x old plan s m t o h runs a) (cells_of (seen x old plan s m t o h runs a)) (back_to (seen x old plan s m t o h runs a) true a.back.place) (AtProc f segment level place))
        → Meets x plan s m answered old new (returned (here_left m t a) v true)
    unfolding ready_row
    proc_meets step.Done new e = entered new (level_of_frame (frame (seen x old plan s m t o h runs a) f) + 1 == level) refl e
    proc_meets (step.Fault fault) new e = (refused fault (level_of_frame (frame (seen x old plan s m t o h runs a) f) + 1 == level) refl e.0, e.1)
    proc_meets (step.Absent found) new e = absurd e
    proc_meets (step.Call n) new e = absurd e
    proc_meets step.Ended new e = absurd e
