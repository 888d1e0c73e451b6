-- A frame without cells is entered at once on the running task's stack: what core and registers represent then.
use Rattle.std.proofs.Common.{◌≡◌, ◌≢◌, ℕ, ◌+◌, ◌≤◌, ◌-◌, List, [], ◌∷◌, Some, refl, ◌∙◌, ap, arith, Bool, slice_set, subst}
use Rattle.std.specs.Prelude.{if◌then◌else◌}
use Rattle.b67_word.specs.Tagged.{Tagged}
use Rattle.b67_word.specs.declared.couples.Place.{Place}
use Rattle.b67_ctl.specs.declared.registers.Regs.{Regs}
use Rattle.b67_ctl.specs.Layout.{mscw_word, rcw_word}
use Rattle.b67_core.proofs.Writes.{slice_get-set_other}
use Rattle.b67_model.specs.State as State
use Rattle.b67_model.specs.Common.{Frame, Return, Condition, Ready, Task, Job, SessionJob, height, with_task, number_of, Session}
use Rattle.b67_model.specs.Keyed.{keyed}
use Rattle.b67_stack.specs.Common.{StackPlace, Entered, Activation, HeadFits, stack_words, top_size, mark_place, mark_of, return_of, PagedObject, MachineView, RunsOn, Storage, RepresentsRunning, Represents, with_stack}
use Rattle.b67_stack.proofs.Slots.{running_slot, running_fits}
use Rattle.b67_stack.proofs.Pushes.{Room, room_of}
use Rattle.b67_layout.specs.Common.{Placement, spot_in, outer_spots, activations, stack_of_task, machine_view, with_job, IsRunning, ShowsDisplay, critical_mark, with_objects, SessionHoldsBut, RepresentsSessionBut}
use Rattle.b67_layout.proofs.Common.{OnTop, IsFree, free-uncritical, runs_on, Settled-more, task_on, SessionHolds-top, still_running, Shows-condition, running_only}
use Rattle.b67_stack.proofs.ClearHeads.{IsClear}
use Rattle.b67_layout.proofs.Heads.{Represents-accident}
use Rattle.b67_stack.specs.declared.Cpu.{Cpu}
use Rattle.b67_lemmas.specs.Lists.{Has}
use Rattle.b67_lemmas.proofs.Members.{keyed_has}

-- the frame that is entered
abbrev pub new_frame : ℕ → ℕ → ℕ → Return → Frame
new_frame n level environment back = record { identity = n; standing = State.Entered level environment (Some back); cells = [] }

distance : (stack : List Activation) → stack ≢ [] → (s f b : ℕ) → s ≡ b + stack_words stack → f ≡ b + mark_place stack → s + 1 - f ≡ top_size stack
distance h some s f b es ef = grind arith

module _ (left : List PagedObject) (x : Storage) (core : List Tagged) (r : Regs) (marks : List ℕ) (plan : Placement) (s : Session) (m : SessionJob) (t : Task) (h : SessionHoldsBut left x core r marks plan s) (runs : IsRunning plan s.jobs m t)
    (level environment : ℕ) (back : Return) (spot : StackPlace) where
  abbrev outer : ℕ → StackPlace
  outer = outer_spots plan m.constants.number m.progress.job t.critical t.parents

  abbrev pub stack : List Activation
  stack = stack_of_task plan m.constants.number m.progress.job plan.running t

  -- the view with the objects that are left
  abbrev pub viewed : MachineView
  viewed = with_objects left (machine_view plan s.jobs)

  under_objects : RunsOn (machine_view plan s.jobs) plan.running stack
  under_objects = runs_on plan s.jobs m t h.fits.rows (keyed_has number_of m.constants.number s.jobs m runs.member).0 (keyed_has (λ (u : Task). u.number) t.number m.progress.job.tasks t runs.task).0 runs.slot runs.member runs.task

  pub on_stack : RunsOn viewed plan.running stack
  on_stack = record { used = under_objects.used; is = under_objects.is }

  abbrev pub mark : Tagged
  mark = mscw_word (mark_of plan.running (Entered level spot (Some back)) stack)

  abbrev pub rcw : Tagged
  rcw = rcw_word (return_of (Some back) stack)

  top_is : RepresentsRunning r viewed plan.running stack
  top_is = running_slot x core r viewed plan.running stack h.memory on_stack

  room : Room x core r viewed plan.running stack
  room = room_of x core r viewed plan.running stack h.memory on_stack

  -- the distance to the mark before
  pub back_is : r.s + 1 - r.f ≡ top_size stack
  back_is = distance stack (running_fits x core r viewed plan.running stack h.memory on_stack).0.some r.s r.f r.bosr (omega (arith, top_is.top, top_is.first)) (omega (arith, top_is.mark, top_is.first))

  module _ (job : Job) (n : ℕ) (tasks : job.tasks ≡ m.progress.job.tasks) (arrays : job.arrays ≡ m.progress.job.arrays) (free : IsFree m.progress.job n) (segment : ℕ) (q : Place) where
    -- the task then, and the job with it
    abbrev pub task_after : Condition → Task
    task_after condition = task_on t (new_frame n level environment back ∷ t.frames) segment q condition

    abbrev pub job_after : Condition → Job
    job_after condition = with_task job (task_after condition)

    on_top : (condition : Condition) → OnTop m.progress.job (job_after condition) t (task_after condition) n
    on_top condition = grind arith

    -- core and registers then
    abbrev pub core_after : List Tagged
    core_after = slice_set (slice_set core (r.s + 1) mark) (r.s + 2) rcw

    abbrev pub regs_after : Regs
    regs_after = record r { s = r.s + 2; f = r.s + 1; level = level; segment = segment + 1; place = q }

    pub IsRunning-accident : (condition : Condition) → IsRunning plan (with_job s m (job_after condition)).jobs (record m { progress = record m.progress { job = job_after condition } }) (task_after condition)
    IsRunning-accident condition = still_running left x core core_after r regs_after marks plan s m t h runs (job_after condition) (new_frame n level environment back ∷ t.frames) segment q condition n (on_top condition)

    -- all but the display, where the frame is entered
    pub SessionHolds-accident : (condition : Condition) → r.s + 2 ≤ r.losr → IsClear r viewed → spot_in plan.running outer t.frames environment ≡ spot → HeadFits (Entered level spot (Some back)) stack
        → SessionHoldsBut left x core_after regs_after marks plan (with_job s m (job_after condition))
    SessionHolds-accident condition stack_words clear at fit =
        let p = machine_view plan s.jobs in
        let fs = new_frame n level environment back ∷ t.frames in
        let after : List Activation = record { head = Entered level spot (Some back); cells = [] } ∷ stack in
        let is : activations plan m.constants.number m.progress.job plan.running outer fs ≡ after = ap (λ (o : StackPlace). record { head = Entered level o (Some back); cells = [] } ∷ stack) at in
        let stands : Represents x core_after regs_after (with_stack viewed plan.running after) = Represents-accident x core r viewed plan.running level spot back (segment + 1) q stack h.memory on_stack clear stack_words fit in
        SessionHolds-top left x core core_after r regs_after marks plan s m t h runs (job_after condition) fs segment q condition n (on_top condition) after
        (λ i low. slice_get-set_other (slice_set core (r.s + 1) mark) (r.s + 2) i rcw (λ z. omega (arith, z, low, room.mark, room.top, top_is.first)) ∙ slice_get-set_other core (r.s + 1) i mark (λ z. omega (arith, z, low, room.mark, room.top, top_is.first)))
        (record { slot = refl; dict = refl; entries = refl; segment = refl; place = refl })
        (ap (λ (b : Bool). if b then height t.frames else critical_mark m.progress.job t.frames) (free-uncritical m.progress.job n free)) is stands
        (Settled-more p plan.running stack after under_objects (omega arith) h.settled)

    -- the whole machine, with the display of the task if it were ready
    pub RepresentsSession-accident : (new : Cpu) → new.core ≡ core_after → new.regs ≡ regs_after → new.critical ≡ marks → r.s + 2 ≤ r.losr → IsClear r viewed → spot_in plan.running outer t.frames environment ≡ spot → HeadFits (Entered level spot (Some back)) stack
        → ShowsDisplay new.display plan (record m { progress = record m.progress { job = job_after Ready } }) (task_after Ready)
        → RepresentsSessionBut left x new plan (with_job s m (job_after t.condition))
    RepresentsSession-accident new ec er em stack_words clear at fit shown =
        let holds = SessionHolds-accident t.condition stack_words clear at fit in
        let P : List Tagged → Regs → List ℕ → Type 0 = λ c g ms. SessionHoldsBut left x c g ms plan (with_job s m (job_after t.condition)) in
        let moved = record m { progress = record m.progress { job = job_after t.condition } } in
        let there = ap (λ (ts : List Task). keyed (λ (u : Task). u.number) t.number ts) tasks ∙ runs.task in
        let free' : IsFree job n = record { some = free.some; uncritical = λ u k. free.uncritical u (let Q : List Task → Type 0 = λ ts. Has ts u in subst Q tasks k) } in
        let own = free.uncritical t (keyed_has (λ (u : Task). u.number) t.number m.progress.job.tasks t runs.task).0 in
        let shows : ShowsDisplay new.display plan moved (task_after t.condition) = Shows-condition new.display plan m job (task_after Ready) Ready t.condition t n there free' own shown in
        record {
          holds = rw (ec, er, em) holds;
          shows = λ y u k. running_only plan (with_job s m (job_after t.condition)).jobs moved y (task_after t.condition) u (ShowsDisplay new.display plan) holds.fits.rows (IsRunning-accident t.condition) k shows;
        }
