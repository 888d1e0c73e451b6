-- The running task leaves its top frame: the machine represents the session afterwards, where the memory does.
use Rattle.std.proofs.Common.{◌≡◌, ◌≢◌, ℕ, ◌<◌, ◌≤◌, List, [], ◌∷◌, map, refl, sym, ◌∙◌, arith, false, inl, inr, subst}
use Rattle.std.specs.List.{slice_get}
use Rattle.b67_word.specs.Tagged.{Tagged}
use Rattle.b67_word.specs.declared.couples.Place.{Place}
use Rattle.b67_ctl.specs.declared.registers.Regs.{Regs}
use Rattle.b67_lemmas.specs.Lists.{Falls}
use Rattle.b67_lemmas.proofs.Members.{all_in, keyed_has}
use Rattle.b67_model.specs.Common.{Frame, Array, Condition, Task, Job, JobProgress, SessionJob, is_critical, Session, IsSegment, from_frame, FramesInOrder, outer_of, TaskInOrder}
use Rattle.b67_model.specs.Keyed.{change_keyed}
use Rattle.b67_layout.specs.Common.{JobInOrderButCounts, IsInOrderButCounts, Placement, spot_in, outer_spots, activations, machine_view, critical_mark, RepresentsTask, IsRunning, SessionHolds, SessionHoldsBut, objects_gone, with_job}
use Rattle.b67_stack.specs.Common.{StackPlace, Activation, stack_words, Storage, Represents, with_stack}
use Rattle.b67_layout.proofs.Common.{running_in_order, member-same, row_of, others, high as identity_high, elsewhere, IsDependedOn, Replaces, task-same, SessionHoldsBut-after, for_running}
use Rattle.b67_layout.proofs.NamedFirst.{under as once_only}
use Rattle.b67_layout.proofs.Nowhere.{MayLeave, uncritical, not_in_reach, SameArrays, frames_stay}
use Rattle.b67_layout.proofs.Slots.{OthersSame, stack-after, memory-after}
use Rattle.b67_layout.proofs.Settled.{settled-after}

-- the running task may leave its top frame
pub record Leaver (plan : Placement) (s : Session) (m : SessionJob) (t : Task) (f : Frame) (below : List Frame) : Type 0 where
  pub ordered : IsInOrderButCounts s
  pub running : IsRunning plan s.jobs m t
  pub frames : t.frames ≡ f ∷ below
  pub free : is_critical m.progress.job f.identity ≡ false

-- the task with other frames, which goes on elsewhere
abbrev pub task_at : Task → List Frame → ℕ → Place → Condition → Task
task_at t fs segment place condition = record t { frames = fs; segment = segment; place = place; condition = condition }

module _ (plan : Placement) (s : Session) (m : SessionJob) (t : Task) (f : Frame) (below : List Frame) (may : Leaver plan s m t f below) where
  job_order : JobInOrderButCounts (IsSegment m.constants) m.constants m.progress
  job_order = (running_in_order plan s m t may.ordered may.running).0

  own_order : TaskInOrder (IsSegment m.constants) m.constants m.progress.job t
  own_order = (running_in_order plan s m t may.ordered may.running).1

  pub may_leave : MayLeave m.constants m.progress.job t f below
  may_leave = record { top = record { order = job_order.tasks; there = may.running.task; frames = may.frames }; free = may.free }

  -- what a live task depends on isn't the frame that is left
  pub depended_apart : (c : ℕ) → IsDependedOn m.progress.job c → c ≢ f.identity
  depended_apart c (inl e) z = omega (arith, e, z, identity_high m.constants m.progress.job t f below may_leave.top)
  depended_apart c (inr (u, h, e)) z = uncritical m.constants m.progress.job t f below may_leave u h (e ∙ z)

  own_critical : t.critical ≢ f.identity
  own_critical = uncritical m.constants m.progress.job t f below may_leave t (keyed_has (λ (u : Task). u.number) t.number m.progress.job.tasks t may.running.task).0

  names_fall : Falls m.progress.job.next_array (map (λ (a : Array). a.identity) m.progress.job.arrays)
  names_fall = job_order.tasks.names

  module _ (new : Job) (arrays : new.arrays ≡ others f.identity m.progress.job.arrays) where
    -- the arrays that the frames below and other tasks name stay
    pub below-same : SameArrays new m.progress.job below
    below-same =
        let all = subst (λ (fs : List Frame). FramesInOrder (IsSegment m.constants) m.progress.job.arrays (outer_of m.progress.job t) fs) may.frames own_order.frames in
        frames_stay new m.progress.job f.identity arrays names_fall (IsSegment m.constants) (outer_of m.progress.job t) below
        (not_in_reach m.constants m.progress.job t f below may_leave t.critical t.parents below own_critical (once_only m.constants m.progress.job t f below may_leave.top)) all.2

    pub others-same : OthersSame new m.progress.job t
    others-same u h ne =
        let order = all_in (TaskInOrder (IsSegment m.constants) m.constants m.progress.job) m.progress.job.tasks u job_order.tasks.tasks h in
        frames_stay new m.progress.job f.identity arrays names_fall (IsSegment m.constants) (outer_of m.progress.job u) u.frames
        (not_in_reach m.constants m.progress.job t f below may_leave u.critical u.parents u.frames (uncritical m.constants m.progress.job t f below may_leave u h) (elsewhere m.constants m.progress.job t f below may_leave.top u h ne)) order.frames

  -- the outer spots that the task names
  abbrev pub outer : ℕ → StackPlace
  outer = outer_spots plan m.constants.number m.progress.job t.critical t.parents

  -- its frames afterwards: others see the same of them, and no critical one came or went
  pub record Frames (fs : List Frame) : Type 0 where
    pub seen : (c s : ℕ) (outer : ℕ → StackPlace) (id : ℕ) → IsDependedOn m.progress.job c → spot_in s outer (from_frame c fs) id ≡ spot_in s outer (from_frame c t.frames) id
    pub mark : critical_mark m.progress.job fs ≡ critical_mark m.progress.job t.frames

  -- the frames below
  pub Frames-below : Frames below
  Frames-below = grind (arith, depended_apart)

  module _ (new : Job) (fs : List Frame) (g : ℕ) (q : Place) (d : Condition) (tasks : new.tasks ≡ change_keyed (λ (u : Task). u.number) t.number (λ (u : Task). task_at t fs g q d) m.progress.job.tasks)
      (arrays : new.arrays ≡ others f.identity m.progress.job.arrays) (after : Frames fs) where
    abbrev pub new_task : Task
    new_task = task_at t fs g q d

    abbrev pub new_course : JobProgress
    new_course = record m.progress { job = new }

    abbrev pub new_member : SessionJob
    new_member = record m { progress = new_course }

    pub replaces : Replaces m.progress.job new t new_task
    replaces = record { there = may.running.task; number = refl; critical = refl; parents = refl; tasks = tasks; seen = after.seen }

    pub runs_after : IsRunning plan (with_job s m new).jobs new_member new_task
    runs_after = record {
      member = member-same s.jobs m.constants.number new_course m may.running.member;
      task = task-same plan m.constants.number m.progress.job new t new_task replaces;
      slot = may.running.slot;
    }

    -- and what is shown of it, is shown of each running task
    pub for_running_after : (x : Storage) (core core' : List Tagged) (r r' : Regs) (marks : List ℕ) → SessionHolds x core r marks plan s
        → (P : SessionJob → Task → Type 0) → P new_member new_task → (y : SessionJob) (u : Task) → IsRunning plan (with_job s m new).jobs y u → P y u
    for_running_after x core core' r r' marks h = for_running [] (objects_gone plan m new) x core core' r r' marks plan s m new_course t new_task h may.running replaces

    -- the whole session, all but the display
    pub holds_after : (x : Storage) (core core' : List Tagged) (r r' : Regs) (marks : List ℕ) → SessionHolds x core r marks plan s
        → ((i : ℕ) → i < plan.stacks → slice_get core' i ≡ slice_get core i)
        → Represents x core' r' (with_stack (machine_view plan s.jobs) plan.running (activations plan m.constants.number new plan.running outer fs))
        → stack_words (activations plan m.constants.number m.progress.job plan.running outer below) ≤ stack_words (activations plan m.constants.number new plan.running outer fs)
        → RepresentsTask r' plan new_member new_task
        → SessionHoldsBut (objects_gone plan m new) x core' r' marks plan (with_job s m new)
    holds_after x core core' r r' marks h same stands higher task =
        let in_m = (keyed_has (λ (y : SessionJob). y.constants.number) m.constants.number s.jobs m may.running.member).0 in
        let in_t = (keyed_has (λ (u : Task). u.number) t.number m.progress.job.tasks t may.running.task).0 in
        let row = row_of plan s.jobs m t h.fits.rows in_m in_t may.running.slot in
        let is = stack-after plan m.constants.number m.progress.job new t new_task replaces plan.running in
        let memory = memory-after plan s.jobs m new_course t new_task plan.running may.running.member replaces row (others-same new arrays) x core' r' f.identity m.progress.job.next_array names_fall arrays
        (subst (λ (S : List Activation). Represents x core' r' (with_stack (machine_view plan s.jobs) plan.running S)) (sym is) stands) in
        let settled = settled-after x core r marks plan s m t f below may.ordered h may.running may.frames new_course new_task replaces row (others-same new arrays) m.progress.job.next_array names_fall arrays
        (subst (λ (S : List Activation). stack_words (activations plan m.constants.number m.progress.job plan.running outer below) ≤ stack_words S) (sym is) higher) in
        SessionHoldsBut-after [] (objects_gone plan m new) x core core' r r' marks plan s m new_course t new_task h may.running replaces same after.mark memory settled task
