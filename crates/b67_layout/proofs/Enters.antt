-- The running task's marked top frame is entered: what core and registers represent then, and what it needs for it.
use Rattle.std.proofs.Common.{◌≡◌, ◌≢◌, ℕ, ◌+◌, ◌≤◌, List, [], ◌∷◌, ◌++◌, map, Some, refl, ◌∙◌, ap, arith, slice_set, subst, length-append}
use Rattle.std.proofs.lemmas.List.{map-append}
use Rattle.b67_word.specs.Tagged.{Tagged}
use Rattle.b67_word.specs.declared.couples.Place.{Place}
use Rattle.b67_ctl.specs.declared.registers.Regs.{Regs}
use Rattle.b67_ctl.specs.Layout.{mscw_word, rcw_word}
use Rattle.b67_core.proofs.Writes.{slice_get-set_other}
use Rattle.b67_model.specs.Common.{Word, Frame, Return, Condition, Ready, Task, Job, SessionJob, top, below_top, with_task, Session, number_of}
use Rattle.b67_model.specs.State as State
use Rattle.b67_stack.specs.Common.{Shape, Original, StackPlace, Marked, Entered, Activation, HeadFits, mark_of, return_of, RunsOn, Storage, RepresentsRunning, Represents, with_stack}
use Rattle.b67_stack.proofs.Slots.{running_slot}
use Rattle.b67_stack.proofs.Pushes.{Room, room_of}
use Rattle.b67_layout.specs.Common.{Placement, spot_in, outer_spots, shape, head, activations, stack_of_task, machine_view, with_job, IsRunning, ShowsDisplay, critical_mark, SessionHolds, RepresentsSession}
use Rattle.b67_layout.proofs.Common.{OnTop, IsFree, runs_on, Settled-more, task_on, SessionHolds-top, still_running, Shows-condition, running_only}
use Rattle.b67_layout.proofs.Heads.{Represents-entered}
use Rattle.b67_stack.specs.declared.Cpu.{Cpu}
use Rattle.b67_lemmas.proofs.Members.{keyed_has}

-- the frames with the top one entered, with these cells
abbrev pub entered_frames : List Frame → ℕ → ℕ → Return → List Word → List Frame
entered_frames fs level environment back cells =
    record (top fs) { standing = State.Entered level environment (Some back); cells = cells } ∷ below_top fs

critical_entered : (job : Job) (fs : List Frame) (level environment : ℕ) (back : Return) (cells : List Word) → fs ≢ [] → critical_mark job (entered_frames fs level environment back cells) ≡ critical_mark job fs
critical_entered job fs level environment back cells some = grind arith

-- the marked frame on top with its first cell
pub record IsMarkedWith (fs : List Frame) (first : Word) (others : List Word) : Type 0 where
  pub some : fs ≢ []
  pub marked : (top fs).standing ≡ State.Marked
  pub cells : (top fs).cells ≡ others ++ first ∷ []

module _ (plan : Placement) (j : ℕ) (job : Job) (k : ℕ) (outer : ℕ → StackPlace) where
  -- its activation record
  pub marked_stack : (fs : List Frame) (first : Word) (cells : List Word) → IsMarkedWith fs first cells → let sh = shape plan j job (spot_in k outer fs) in
      activations plan j job k outer fs ≡ record { head = Marked; cells = map sh cells ++ sh first ∷ [] } ∷ activations plan j job k outer (below_top fs)
  marked_stack fs first cells w = grind (arith, map-append)

  entered_stack : (fs : List Frame) (level environment : ℕ) (back : Return) (cells : List Word) → fs ≢ [] →
      activations plan j job k outer (entered_frames fs level environment back cells)
      ≡ record { head = Entered level (spot_in k outer (below_top fs) environment) (Some back); cells = map (shape plan j job (spot_in k outer fs)) cells } ∷ activations plan j job k outer (below_top fs)
  entered_stack fs level environment back cells some = grind arith

module _ (x : Storage) (core : List Tagged) (r : Regs) (marks : List ℕ) (plan : Placement) (s : Session) (m : SessionJob) (t : Task) (h : SessionHolds x core r marks plan s) (runs : IsRunning plan s.jobs m t)
    (first : Word) (cells : List Word) (w : IsMarkedWith t.frames first cells) (level environment : ℕ) (back : Return) (spot : StackPlace) where
  abbrev pub outer : ℕ → StackPlace
  outer = outer_spots plan m.constants.number m.progress.job t.critical t.parents

  -- the activation records under the marked one
  abbrev pub under : List Activation
  under = activations plan m.constants.number m.progress.job plan.running (outer_spots plan m.constants.number m.progress.job t.critical t.parents) (below_top t.frames)

  abbrev pub sh : Word → Shape
  sh = shape plan m.constants.number m.progress.job (spot_in plan.running (outer_spots plan m.constants.number m.progress.job t.critical t.parents) t.frames)

  abbrev pub stack : List Activation
  stack = record { head = Marked; cells = map sh cells ++ sh first ∷ [] } ∷ under

  stack_is : stack_of_task plan m.constants.number m.progress.job plan.running t ≡ stack
  stack_is = marked_stack plan m.constants.number m.progress.job plan.running outer t.frames first cells w

  pub on_stack : RunsOn (machine_view plan s.jobs) plan.running stack
  on_stack = subst (RunsOn (machine_view plan s.jobs) plan.running) stack_is
      (runs_on plan s.jobs m t h.fits.rows (keyed_has number_of m.constants.number s.jobs m runs.member).0 (keyed_has (λ (u : Task). u.number) t.number m.progress.job.tasks t runs.task).0 runs.slot runs.member runs.task)

  abbrev pub mark : Tagged
  mark = mscw_word (mark_of plan.running (Entered level spot (Some back)) under)

  abbrev pub rcw : Tagged
  rcw = rcw_word (return_of (Some back) under)

  room : Room x core r (machine_view plan s.jobs) plan.running stack
  room = room_of x core r (machine_view plan s.jobs) plan.running stack h.memory on_stack

  top_is : RepresentsRunning r (machine_view plan s.jobs) plan.running stack
  top_is = running_slot x core r (machine_view plan s.jobs) plan.running stack h.memory on_stack

  pub two_cells : r.f + 1 ≤ r.s
  two_cells = omega (arith, top_is.top, top_is.mark, length-append (map sh cells) (sh first ∷ []))

  module _ (n : ℕ) (free : IsFree m.progress.job n) (segment : ℕ) (q : Place) where
    -- the task then, and the job with it
    abbrev pub task_after : Condition → Task
    task_after condition = task_on t (entered_frames t.frames level environment back cells) segment q condition

    abbrev pub job_after : Condition → Job
    job_after condition = with_task m.progress.job (task_after condition)

    on_top : (condition : Condition) → OnTop m.progress.job (job_after condition) t (task_after condition) n
    on_top condition = grind arith

    -- core and registers then
    abbrev pub core_after : List Tagged
    core_after = slice_set (slice_set core r.f mark) (r.f + 1) rcw

    abbrev pub regs_after : Regs
    regs_after = record r { level = level; segment = segment + 1; place = q }

    pub IsRunning-entered : (condition : Condition) → IsRunning plan (with_job s m (job_after condition)).jobs (record m { progress = record m.progress { job = job_after condition } }) (task_after condition)
    IsRunning-entered condition = still_running [] x core core_after r regs_after marks plan s m t h runs (job_after condition) (entered_frames t.frames level environment back cells) segment q condition n (on_top condition)

    -- all but the display, where the frame is entered
    pub SessionHolds-entered : (condition : Condition) → ((home : ℕ) → shape plan m.constants.number m.progress.job (spot_in plan.running outer t.frames) first ≢ Original home)
        → spot_in plan.running outer (below_top t.frames) environment ≡ spot → HeadFits (Entered level spot (Some back)) under
        → SessionHolds x core_after regs_after marks plan (with_job s m (job_after condition))
    SessionHolds-entered condition plain at fit =
        let p = machine_view plan s.jobs in
        let fs = entered_frames t.frames level environment back cells in
        let after : List Activation = record { head = Entered level spot (Some back); cells = map sh cells } ∷ under in
        let is : activations plan m.constants.number m.progress.job plan.running outer fs ≡ after =
        entered_stack plan m.constants.number m.progress.job plan.running outer t.frames level environment back cells w.some
        ∙ ap (λ (o : StackPlace). record { head = Entered level o (Some back); cells = map sh cells } ∷ under) at in
        let stands : Represents x core_after regs_after (with_stack p plan.running after) = Represents-entered x core r p plan.running level spot back (segment + 1) q (map sh cells) (sh first) under h.memory on_stack plain fit in
        SessionHolds-top [] x core core_after r regs_after marks plan s m t h runs (job_after condition) fs segment q condition n (on_top condition) after
        (λ i low. slice_get-set_other (slice_set core r.f mark) (r.f + 1) i rcw (λ z. omega (arith, z, low, room.mark, top_is.first)) ∙ slice_get-set_other core r.f i mark (λ z. omega (arith, z, low, room.mark, top_is.first)))
        (record { slot = refl; dict = refl; entries = refl; segment = refl; place = refl }) (critical_entered m.progress.job t.frames level environment back cells w.some) is stands
        (Settled-more p plan.running stack after on_stack (omega (arith, length-append (map sh cells) (sh first ∷ []))) h.settled)

    -- the whole machine, with the display of the task if it were ready
    pub RepresentsSession-entered : (new : Cpu) → new.core ≡ core_after → new.regs ≡ regs_after → new.critical ≡ marks → ((home : ℕ) → shape plan m.constants.number m.progress.job (spot_in plan.running outer t.frames) first ≢ Original home)
        → spot_in plan.running outer (below_top t.frames) environment ≡ spot → HeadFits (Entered level spot (Some back)) under
        → ShowsDisplay new.display plan (record m { progress = record m.progress { job = job_after Ready } }) (task_after Ready)
        → RepresentsSession x new plan (with_job s m (job_after t.condition))
    RepresentsSession-entered new ec er em plain at fit shown =
        let holds = SessionHolds-entered t.condition plain at fit in
        let moved = record m { progress = record m.progress { job = job_after t.condition } } in
        let own = free.uncritical t (keyed_has (λ (u : Task). u.number) t.number m.progress.job.tasks t runs.task).0 in
        let shows : ShowsDisplay new.display plan moved (task_after t.condition) = Shows-condition new.display plan m m.progress.job (task_after Ready) Ready t.condition t n runs.task free own shown in
        record {
          holds = rw (ec, er, em) holds;
          shows = λ y u k. running_only plan (with_job s m (job_after t.condition)).jobs moved y (task_after t.condition) u (ShowsDisplay new.display plan) holds.fits.rows (IsRunning-entered t.condition) k shows;
        }
