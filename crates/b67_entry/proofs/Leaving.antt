-- The machine with the caller's registers represents the session without the top frame.
use Rattle.std.proofs.Common.{◌≡◌, ◌≢◌, ℕ, ◌+◌, ◌≤◌, List, [], ◌∷◌, map, None, refl, sym, ◌∙◌, ap, arith, inl, subst}
use Rattle.b67_word.specs.declared.couples.Place.{Place}
use Rattle.b67_ctl.specs.declared.registers.Regs.{Regs}
use Rattle.b67_model.specs.Common.{Frame, Condition, Ready, Task, Job, SessionJob, height, top, with_task, exit, number_of, is_critical, without_arrays_of, Session}
use Rattle.b67_layout.specs.Common.{IsInOrderButCounts, Placement, spot_in, outer_spots, shape, head, activations, machine_view, RepresentsTask, IsRunning, ShowsDisplay, RepresentsSession, SessionHoldsBut, objects_gone, with_job, IsMade, here}
use Rattle.b67_stack.specs.declared.Cpu.{Cpu}
use Rattle.b67_stack.specs.Common.{StackPlace, Activation, stack_words, RunsOn, Storage, Represents, with_stack}
use Rattle.b67_stack.proofs.Pushes.{Represents-cut}
use Rattle.b67_layout.proofs.Common.{fresh, running_in_order, slot_is, runs_here, Shows-condition}
use Rattle.b67_refer.specs.RunningContext.{RunningContext, IsShown}
use Rattle.b67_refer.proofs.Scenes.{member_in_order}
use Rattle.b67_layout.proofs.Nowhere.{activations-same}
use Rattle.b67_layout.proofs.Leaves.{Leaver, task_at, may_leave, below-same, Frames-below, runs_after, holds_after, for_running_after}
use Rattle.b67_layout.proofs.LeftOrders.{left_ready}
use Rattle.b67_entry.specs.Left.{MayReturn, caller_regs, going_on, Returns}
use Rattle.b67_entry.proofs.Exits.{exit_left}
use Rattle.b67_lemmas.proofs.Members.{keyed_has}

pub some_first : {A : Type 0} (x : A) (xs : List A) → x ∷ xs ≢ []
some_first x xs e = cc

module _ (x : Storage) (old : Cpu) (plan : Placement) (s : Session) (m : SessionJob) (t : Task) (o : IsInOrderButCounts s) (h : RepresentsSession x old plan s) (runs : IsRunning plan s.jobs m t) (a : Returns m t) where
  pub may : Leaver plan s m t a.f (a.next ∷ a.more)
  may = record { ordered = o; running = runs; frames = a.frames; free = a.free }

  abbrev pub outer : ℕ → StackPlace
  outer = outer_spots plan m.constants.number m.progress.job t.critical t.parents

  abbrev pub under : List Activation
  under = activations plan m.constants.number m.progress.job plan.running outer (a.next ∷ a.more)

  abbrev pub on_top : Activation
  on_top = record { head = head (spot_in plan.running outer (a.next ∷ a.more)) a.f.standing; cells = map (shape plan m.constants.number m.progress.job (spot_in plan.running outer (a.f ∷ (a.next ∷ a.more)))) a.f.cells }

  pub on_stack : RunsOn (machine_view plan s.jobs) old.regs.slot (on_top ∷ under)
  on_stack = subst (λ (fs : List Frame). RunsOn (machine_view plan s.jobs) old.regs.slot (activations plan m.constants.number m.progress.job plan.running outer fs)) a.frames (runs_here x old plan s m t h runs)

  -- the stack has a record to return from
  abbrev pub may_return : MayReturn old
  may_return = record {
    storage = x;
    machine_view = machine_view plan s.jobs;
    top = on_top;
    below = under;
    level = a.level;
    environment = spot_in plan.running outer (a.next ∷ a.more) a.environment;
    back = a.back;
    stands = h.holds.memory;
    runs = on_stack;
    entered = ap (head (spot_in plan.running outer (a.next ∷ a.more))) a.entered;
    some = some_first (record { head = head (spot_in plan.running outer a.more) a.next.standing; cells = map (shape plan m.constants.number m.progress.job (spot_in plan.running outer (a.next ∷ a.more))) a.next.cells }) (activations plan m.constants.number m.progress.job plan.running outer a.more);
  }

  abbrev pub regs_left : Regs
  regs_left = caller_regs old.regs under a.back

  -- the job without the frame, whatever its task waits for
  abbrev pub job_at : Condition → Job
  job_at d = with_task (without_arrays_of a.f.identity m.progress.job) (task_at t (a.next ∷ a.more) a.back.segment a.back.place d)

  abbrev pub member_at : Condition → SessionJob
  member_at d = record m { progress = record m.progress { job = job_at d } }

  abbrev pub task_left : Condition → Task
  task_left d = task_at t (a.next ∷ a.more) a.back.segment a.back.place d

  same_under : (d : Condition) → activations plan m.constants.number (job_at d) plan.running outer (a.next ∷ a.more) ≡ under
  same_under d = activations-same plan m.constants.number (job_at d) m.progress.job plan.running outer (a.next ∷ a.more) (below-same plan s m t a.f (a.next ∷ a.more) may (job_at d) refl)

  memory : Represents x old.core regs_left (with_stack (machine_view plan s.jobs) plan.running under)
  memory =
      let P : ℕ → Type 0 = λ k. Represents x old.core regs_left (with_stack (machine_view plan s.jobs) k under) in
      subst P (slot_is x old plan s m t h runs) (Represents-cut x old.core old.regs (machine_view plan s.jobs) old.regs.slot on_top under (a.back.segment + 1) a.back.place (λ z. cc) h.holds.memory on_stack)

  task_stands : (d : Condition) → RepresentsTask regs_left plan (member_at d) (task_left d)
  task_stands d = let r = h.holds.running m t runs in record { slot = r.slot; dict = r.dict; entries = r.entries; segment = refl; place = refl }

  pub holds_left : (d : Condition) → SessionHoldsBut (objects_gone plan m (job_at d)) x old.core regs_left old.critical plan (with_job s m (job_at d))
  holds_left d = holds_after plan s m t a.f (a.next ∷ a.more) may (job_at d) (a.next ∷ a.more) a.back.segment a.back.place d refl refl (Frames-below plan s m t a.f (a.next ∷ a.more) may) x old.core old.core old.regs regs_left old.critical h.holds (λ i low. refl)
      (subst (λ (S : List Activation). Represents x old.core regs_left (with_stack (machine_view plan s.jobs) plan.running S)) (sym (same_under d)) memory)
      (omega (arith, ap stack_words (same_under d))) (task_stands d)

  pub runs_left : (d : Condition) → IsRunning plan (with_job s m (job_at d)).jobs (member_at d) (task_left d)
  runs_left d = runs_after plan s m t a.f (a.next ∷ a.more) may (job_at d) (a.next ∷ a.more) a.back.segment a.back.place d refl refl (Frames-below plan s m t a.f (a.next ∷ a.more) may)

  -- what references are followed in, once the frame is left. The task is seen as a ready one
  abbrev pub scene_left : RunningContext old.core regs_left
  scene_left =
      let i = member_in_order s m o (keyed_has number_of m.constants.number s.jobs m runs.member).0 in
      record {
        left = objects_gone plan m (job_at Ready);
        storage = x;
        marks = old.critical;
        plan = plan;
        session = with_job s m (job_at Ready);
        member = member_at Ready;
        task = task_left Ready;
        ordered = record { from_one = i.from_one; few = i.few; constants = i.constants; tasks = left_ready m.constants m.progress.job t a.f (a.next ∷ a.more) (may_leave plan s m t a.f (a.next ∷ a.more) may) a.back.segment a.back.place (some_first a.next a.more) a.starts };
        holds = holds_left Ready;
        running = runs_left Ready;
      }

  -- a display that shows it shows the task as it is
  pub shown_left : (display : List ℕ) → ShowsDisplay display plan (member_at Ready) (task_left Ready) → ShowsDisplay display plan (member_at t.condition) (task_left t.condition)
  shown_left display shown =
      let free = fresh plan s m t o runs in
      Shows-condition display plan m (without_arrays_of a.f.identity m.progress.job) (task_left Ready) Ready t.condition t m.progress.job.next_frame runs.task
      (record { some = free.some; uncritical = free.uncritical }) (free.uncritical t (keyed_has (λ (u : Task). u.number) t.number m.progress.job.tasks t runs.task).0) shown

  -- EXIT was made
  pub exit_made : (q : Place) (display : List ℕ) → ShowsDisplay display plan (member_at Ready) (task_left Ready)
      → IsMade x plan s m old (record { core = old.core; regs = regs_left; display = display; critical = old.critical }) (exit (here m t q))
  exit_made q display shown =
      let new : Cpu = record { core = old.core; regs = regs_left; display = display; critical = old.critical } in
      let after = shown_left display shown in
      let lower : height (a.next ∷ a.more) ≤ height t.frames = subst (λ (fs : List Frame). height (a.next ∷ a.more) ≤ height fs) (sym a.frames) (omega arith) in
      record {
        job = job_at t.condition;
        touched = None;
        is = exit_left m t q a.f (a.next ∷ a.more) a.level a.environment a.back a.frames a.entered (ap (λ (fs : List Frame). is_critical m.progress.job (top fs).identity) a.frames ∙ a.free) (omega (arith, lower, (running_in_order plan s m t o runs).1.not_higher));
        present = tt;
        stands = record {
          holds = holds_left t.condition;
          shows = for_running_after plan s m t a.f (a.next ∷ a.more) may (job_at t.condition) (a.next ∷ a.more) a.back.segment a.back.place t.condition refl refl (Frames-below plan s m t a.f (a.next ∷ a.more) may) x old.core old.core old.regs regs_left old.critical h.holds (ShowsDisplay display plan) after;
        };
        changed = λ i. inl refl;
      }

  -- the same by the registers that were computed, and the display that was built for them
  pub exit_done : (q : Place) (r : Regs) (display : List ℕ) → r ≡ regs_left → ((b : RunningContext old.core r) → IsShown b display)
      → IsMade x plan s m old (record { core = old.core; regs = r; display = display; critical = old.critical }) (exit (here m t q))
  exit_done q r display e shown =
      let P : Regs → Type 0 = λ v. ((b : RunningContext old.core v) → IsShown b display) → IsMade x plan s m old (record { core = old.core; regs = v; display = display; critical = old.critical }) (exit (here m t q)) in
      subst P (sym e) (λ show. exit_made q display (show scene_left)) shown

  -- the machine that goes on there
  pub exit_goes_on : (q : Place) (r : Regs) (display : List ℕ) (new : Cpu) → r ≡ regs_left → ((b : RunningContext old.core r) → IsShown b display) → new ≡ record old { regs = going_on old.regs r; display = display }
      → IsMade x plan s m old new (exit (here m t q))
  exit_goes_on q r display new e shown is =
      let stays : going_on old.regs r ≡ r = ap (going_on old.regs) e ∙ sym e in
      subst (λ (z : Cpu). IsMade x plan s m old z (exit (here m t q))) (sym (is ∙ ap (λ (v : Regs). record old { regs = v; display = display }) stays)) (exit_done q r display e shown)
