-- The machine without a call on its running stack represents the session without it.
use Rattle.std.proofs.Common.{◌≡◌, ◌≢◌, ℕ, ◌+◌, ◌≤◌, List, [], ◌∷◌, map, Some, refl, sym, ◌∙◌, ap, arith, false, subst}
use Rattle.std.specs.List.{AllByRecursion, slice_get}
use Rattle.std.proofs.lemmas.Bool.{ne_eqb}
use Rattle.b67_word.specs.declared.couples.Place.{Place}
use Rattle.b67_ctl.specs.Layout.{IsPlace}
use Rattle.b67_ctl.specs.declared.registers.Regs.{Regs}
use Rattle.b67_lemmas.specs.Lists.{Has}
use Rattle.b67_model.specs.Common.{Word, Frame, Array, Condition, Ready, Task, Job, SessionJob, OperatorContext, top, below_top, with_task, level_of_frame, running, running_level, frame_at, is_original, number_of, is_critical, Session, IsSegment, Known, known_of, known_numbers, ReturnsInOrder, StackInOrder, TaskInOrder, TasksInOrder}
use Rattle.b67_model.specs.State as State
use Rattle.b67_layout.specs.Common.{IsInOrderButCounts, Placement, slot_of, spot_in, outer_spots, address_of, frame_address, shape, head, activations, machine_view, RepresentsTask, IsRunning, ShowsDisplay, RepresentsSession, SessionHoldsBut, RepresentsSessionBut, objects_gone, with_job, here}
use Rattle.b67_stack.specs.declared.Cpu.{Cpu}
use Rattle.b67_stack.specs.Common.{StackPlace, Activation, stack_words, mark_place, stack_level, RunsOn, Storage, Represents, with_stack}
use Rattle.b67_stack.proofs.Pushes.{Represents-cut}
use Rattle.b67_layout.proofs.Common.{fresh, running_in_order, no_objects_gone, slot_is, runs_here, Shows-condition, others}
use Rattle.b67_layout.proofs.NamedFirst.{under as once_only}
use Rattle.b67_law.proofs.Chases.{running_in}
use Rattle.b67_law.proofs.Replaced.{has_counts}
use Rattle.b67_refer.specs.RunningContext.{RunningContext}
use Rattle.b67_refer.proofs.Scenes.{member_in_order, scene}
use Rattle.b67_refer.proofs.Chains.{level_low}
use Rattle.b67_refer.proofs.Displays.{agrees, holds_on, shown_holds}
use Rattle.b67_layout.proofs.Nowhere.{activations-same}
use Rattle.b67_layout.proofs.Leaves.{Leaver, task_at, may_leave, below-same, Frames-below, runs_after, holds_after, for_running_after}
use Rattle.b67_layout.proofs.LeftOrders.{left_ready}
use Rattle.b67_mcp.specs.Calls.{MayCut, job_cut}
use Rattle.b67_mcp.proofs.Owned.{arrays_stay}
use Rattle.b67_lemmas.proofs.Members.{has_map, keyed_has}

-- a marked frame without an original on top, on which no live task depends
pub record Cut (m : SessionJob) (t : Task) : Type 0 where
  pub f : Frame
  pub next : Frame
  pub more : List Frame
  pub frames : t.frames ≡ f ∷ next ∷ more
  pub marked : f.standing ≡ State.Marked
  pub plain : AllByRecursion (λ (w : Word). is_original w ≡ false) f.cells
  pub free : is_critical m.progress.job f.identity ≡ false

-- a frame among a task's own is found there, whatever lies outside
own_spot : (k : ℕ) (o o' : ℕ → StackPlace) (fs : List Frame) (g : Frame) → Has fs g → spot_in k o fs g.identity ≡ spot_in k o' fs g.identity
own_spot k o o' [] g here = absurd here
own_spot k o o' (f ∷ fs) g h = grind (arith, own_spot k o o' fs)

-- the frame of the running level is the running one
running_at : (h : OperatorContext) → frame_at h (running_level h) ≡ running h.task.frames
running_at h = grind arith

module _ (x : Storage) (old : Cpu) (plan : Placement) (s : Session) (m : SessionJob) (t : Task) (o : IsInOrderButCounts s) (h : RepresentsSession x old plan s) (runs : IsRunning plan s.jobs m t) (a : Cut m t) (q : Place) (q_fits : IsPlace q) where
  pub may : Leaver plan s m t a.f (a.next ∷ a.more)
  may = record { ordered = o; running = runs; frames = a.frames; free = a.free }

  abbrev pub outer : ℕ → StackPlace
  outer = outer_spots plan m.constants.number m.progress.job t.critical t.parents

  abbrev pub under : List Activation
  under = activations plan m.constants.number m.progress.job plan.running outer (a.next ∷ a.more)

  abbrev pub on_top : Activation
  on_top = record { head = head (spot_in plan.running outer (a.next ∷ a.more)) a.f.standing; cells = map (shape plan m.constants.number m.progress.job (spot_in plan.running outer (a.f ∷ (a.next ∷ a.more)))) a.f.cells }

  pub on_stack : RunsOn (machine_view plan s.jobs) old.regs.slot (on_top ∷ under)
  on_stack = subst (λ (fs : List Frame). RunsOn (machine_view plan s.jobs) old.regs.slot (activations plan m.constants.number m.progress.job plan.running outer fs)) a.frames (runs_here x old plan s m t h runs)

  -- the registers on the stack below, at the place behind the call
  abbrev pub regs_cut : Regs
  regs_cut = record old.regs { s = old.regs.bosr + stack_words under; f = old.regs.bosr + mark_place under; level = stack_level under; place = q }

  abbrev pub job_at : Condition → Job
  job_at d = with_task m.progress.job (task_at t (a.next ∷ a.more) t.segment q d)

  abbrev pub member_at : Condition → SessionJob
  member_at d = record m { progress = record m.progress { job = job_at d } }

  abbrev pub task_cut : Condition → Task
  task_cut d = task_at t (a.next ∷ a.more) t.segment q d

  stay : m.progress.job.arrays ≡ others a.f.identity m.progress.job.arrays
  stay = arrays_stay m.constants m.progress.job t a.f (a.next ∷ a.more) (may_leave plan s m t a.f (a.next ∷ a.more) may).top a.plain

  same_under : (d : Condition) → activations plan m.constants.number (job_at d) plan.running outer (a.next ∷ a.more) ≡ under
  same_under d = activations-same plan m.constants.number (job_at d) m.progress.job plan.running outer (a.next ∷ a.more) (below-same plan s m t a.f (a.next ∷ a.more) may (job_at d) stay)

  memory : Represents x old.core regs_cut (with_stack (machine_view plan s.jobs) plan.running under)
  memory =
      let P : ℕ → Type 0 = λ k. Represents x old.core regs_cut (with_stack (machine_view plan s.jobs) k under) in
      subst P (slot_is x old plan s m t h runs) (Represents-cut x old.core old.regs (machine_view plan s.jobs) old.regs.slot on_top under old.regs.segment q (λ z. cc) h.holds.memory on_stack)

  task_stands : (d : Condition) → RepresentsTask regs_cut plan (member_at d) (task_cut d)
  task_stands d = let r = h.holds.running m t runs in record { slot = r.slot; dict = r.dict; entries = r.entries; segment = r.segment; place = refl }

  pub holds_cut : (d : Condition) → SessionHoldsBut (objects_gone plan m (job_at d)) x old.core regs_cut old.critical plan (with_job s m (job_at d))
  holds_cut d = holds_after plan s m t a.f (a.next ∷ a.more) may (job_at d) (a.next ∷ a.more) t.segment q d refl stay (Frames-below plan s m t a.f (a.next ∷ a.more) may) x old.core old.core old.regs regs_cut old.critical h.holds (λ i low. refl)
      (subst (λ (S : List Activation). Represents x old.core regs_cut (with_stack (machine_view plan s.jobs) plan.running S)) (sym (same_under d)) memory)
      (omega (arith, ap stack_words (same_under d))) (task_stands d)

  pub runs_cut : (d : Condition) → IsRunning plan (with_job s m (job_at d)).jobs (member_at d) (task_cut d)
  runs_cut d = runs_after plan s m t a.f (a.next ∷ a.more) may (job_at d) (a.next ∷ a.more) t.segment q d refl stay (Frames-below plan s m t a.f (a.next ∷ a.more) may)

  -- the frame below goes on in the running segment
  starts : IsSegment m.constants t.segment (level_of_frame (running (a.next ∷ a.more))) q
  starts = let own = (running_in_order plan s m t o runs).1.place in record { from_one = own.from_one; within = own.within; word_fits = q_fits.word; syllable_fits = q_fits.syllable }

  pub order_cut : TasksInOrder (IsSegment m.constants) m.constants (job_at Ready)
  order_cut =
      let P : List Array → Type 0 = λ arrays. TasksInOrder (IsSegment m.constants) m.constants (record (job_at Ready) { arrays = arrays }) in
      subst P (sym stay) (left_ready m.constants m.progress.job t a.f (a.next ∷ a.more) (may_leave plan s m t a.f (a.next ∷ a.more) may) t.segment q (λ z. cc) starts)

  -- what references are followed in, once the call is cut. The task is seen as a ready one
  abbrev scene_cut : RunningContext old.core regs_cut
  scene_cut =
      let i = member_in_order s m o (keyed_has number_of m.constants.number s.jobs m runs.member).0 in
      record {
        left = objects_gone plan m (job_at Ready);
        storage = x;
        marks = old.critical;
        plan = plan;
        session = with_job s m (job_at Ready);
        member = member_at Ready;
        task = task_cut Ready;
        ordered = record { from_one = i.from_one; few = i.few; constants = i.constants; tasks = order_cut };
        holds = holds_cut Ready;
        running = runs_cut Ready;
      }

  -- the frame that runs is the same, since the call is only marked
  same_running : running t.frames ≡ running (a.next ∷ a.more)
  same_running = rw (a.frames, a.marked) refl

  runs_below : Has (a.next ∷ a.more) (running (a.next ∷ a.more))
  runs_below =
      let returns = subst (StackInOrder (IsSegment m.constants)) a.frames (running_in_order plan s m t o runs).1.returns in
      (running_in (IsSegment m.constants) (a.next ∷ a.more) returns.1 (λ z. cc)).0

  -- and it isn't the call
  apart : (running (a.next ∷ a.more)).identity ≢ a.f.identity
  apart e =
      let below : List Frame = a.next ∷ a.more in
      let known = has_map known_of below (running below) runs_below in
      let among : Has (known_numbers (map known_of below)) a.f.identity = subst (Has (known_numbers (map known_of below))) e (has_map (λ (k : Known). k.0) (map known_of below) (known_of (running below)) known) in
      omega (arith, has_counts a.f.identity below among, once_only m.constants m.progress.job t a.f below (may_leave plan s m t a.f below may).top)

  -- it stands where it stood
  same_address : frame_address plan m t (running (a.next ∷ a.more)).identity ≡ frame_address plan (member_at Ready) (task_cut Ready) (running (a.next ∷ a.more)).identity
  same_address =
      let id = (running (a.next ∷ a.more)).identity in
      let k = slot_of plan m.constants.number t.number in
      let after = outer_spots plan m.constants.number (job_at Ready) t.critical t.parents in
      let passed : spot_in k outer (a.f ∷ (a.next ∷ a.more)) id ≡ spot_in k outer (a.next ∷ a.more) id = rw (ne_eqb a.f.identity id (λ e. apart (sym e))) refl in
      ap (address_of plan) (ap (λ (fs : List Frame). spot_in k outer fs id) a.frames ∙ passed ∙ own_spot k outer after (a.next ∷ a.more) (running (a.next ∷ a.more)) runs_below)

  -- so the display shows the environment that runs on
  shown_still : ShowsDisplay old.display plan (member_at Ready) (task_cut Ready)
  shown_still k up =
      let before = scene [] x old.core old.regs old.critical plan s m t o h.holds runs in
      let low : level_of_frame (running (a.next ∷ a.more)) ≤ level_of_frame (running t.frames) = omega (arith, ap level_of_frame same_running) in
      let known = level_of_frame (running (a.next ∷ a.more)) in
      let held = holds_on old.core old.regs regs_cut old.display known refl refl refl (shown_holds old.core old.regs before old.core old.display known (h.shows m t runs) low (λ n two up. refl)) in
      let at : slice_get old.display known ≡ Some (frame_address plan m t (frame_at (here m t t.place) known).identity) = h.shows m t runs known low in
      let own : frame_at (here m t t.place) known ≡ running (a.next ∷ a.more) =
      ap (λ (f : Frame). frame_at (here m t t.place) (level_of_frame f)) (sym same_running) ∙ running_at (here m t t.place) ∙ same_running in
      agrees old.core regs_cut scene_cut known old.display (level_low old.core regs_cut scene_cut) (omega arith) held
      (at ∙ ap (λ (f : Frame). Some (frame_address plan m t f.identity)) own ∙ ap Some same_address ∙ ap (λ (f : Frame). Some (frame_address plan (member_at Ready) (task_cut Ready) f.identity)) (sym (running_at (here (member_at Ready) (task_cut Ready) q)))) k up

  shown_cut : ShowsDisplay old.display plan (member_at t.condition) (task_cut t.condition)
  shown_cut =
      let free = fresh plan s m t o runs in
      Shows-condition old.display plan m m.progress.job (task_cut Ready) Ready t.condition t m.progress.job.next_frame runs.task
      (record { some = free.some; uncritical = free.uncritical }) (free.uncritical t (keyed_has (λ (u : Task). u.number) t.number m.progress.job.tasks t runs.task).0) shown_still

  -- the whole machine, with the display as it was
  pub stands_cut : RepresentsSession x (record old { regs = regs_cut }) plan (with_job s m (job_at t.condition))
  stands_cut =
      let new : Cpu = record old { regs = regs_cut } in
      let P : List _ → Type 0 = λ left. RepresentsSessionBut left x new plan (with_job s m (job_at t.condition)) in
      subst P (no_objects_gone plan m (job_at t.condition) refl) (record {
        holds = holds_cut t.condition;
        shows = for_running_after plan s m t a.f (a.next ∷ a.more) may (job_at t.condition) (a.next ∷ a.more) t.segment q t.condition refl stay (Frames-below plan s m t a.f (a.next ∷ a.more) may) x old.core old.core old.regs regs_cut old.critical h.holds (ShowsDisplay old.display plan) shown_cut;
      })

-- a call that may be cut lies on another frame
pub cut_of : (plan : Placement) (s : Session) (m : SessionJob) (t : Task) → IsInOrderButCounts s → IsRunning plan s.jobs m t → MayCut m t → Cut m t
cut_of plan s m t o runs may = by t.frames refl may.marked may.plain may.free own.some own.returns
  where
    own : TaskInOrder (IsSegment m.constants) m.constants m.progress.job t
    own = (running_in_order plan s m t o runs).1

    standing_below : (f : Frame) (below : List Frame) → f.standing ≡ State.Marked → StackInOrder (IsSegment m.constants) (f ∷ below) → below ≢ []
    standing_below f below e r = let P : State.Standing → Type 0 = λ st. ReturnsInOrder (IsSegment m.constants) st below in subst P e r.0

    by : (fs : List Frame) → t.frames ≡ fs → (top fs).standing ≡ State.Marked → AllByRecursion (λ (w : Word). is_original w ≡ false) (top fs).cells → is_critical m.progress.job (top fs).identity ≡ false
        → fs ≢ [] → StackInOrder (IsSegment m.constants) fs → Cut m t
    by [] e marked plain free some returns = absurd (some refl)
    by (f ∷ []) e marked plain free some returns = absurd (standing_below f [] marked returns refl)
    by (f ∷ next ∷ more) e marked plain free some returns = record { f = f; next = next; more = more; frames = e; marked = marked; plain = plain; free = free }

-- the job is the one that the model cuts
pub job_is : (m : SessionJob) (t : Task) (a : Cut m t) (q : Place) → job_cut m t q ≡ with_task m.progress.job (task_at t (a.next ∷ a.more) t.segment q t.condition)
job_is m t a q = ap (λ (fs : List Frame). with_task m.progress.job (task_at t (below_top fs) t.segment q t.condition)) a.frames
