-- A word more on the running task's top frame, whatever the tasks wait for.
use Rattle.std.proofs.Common.{◌≡◌, ℕ, ◌+◌, ◌<◌, List, [], ◌∷◌, map, refl, ◌∙◌, ap, arith, subst}
use Rattle.b67_word.specs.Tagged.{Tagged}
use Rattle.b67_core.proofs.Writes.{slice_get-set_other}
use Rattle.b67_model.specs.Common.{Word, Frame, Task, Job, SessionJob, with_top_cells, known_of, Session}
use Rattle.b67_model.specs.Keyed.{change_keyed}
use Rattle.b67_stack.specs.declared.Cpu.{Cpu}
use Rattle.b67_stack.specs.Common.{Shape, Fits, StackPlace, Activation, RunsOn, Storage, RepresentsRunning, pushed, top_cells, stack_with_cells, MayPush}
use Rattle.b67_stack.proofs.Slots.{running_slot}
use Rattle.b67_stack.proofs.Pushes.{Room, room_of}
use Rattle.b67_layout.specs.Common.{Placement, slot_of, spot_in, outer_spots, spots, shape, stack_of_task, machine_view, IsRunning, ShowsDisplay, critical_mark, RepresentsSession, with_job, cells}
use Rattle.b67_layout.proofs.Common.{OnTop, Shows-same, running_only, slot_is, runs_here, IsFree, activations-with, SessionHolds-top, still_running, outer-same}
use Rattle.b67_exec_cells.proofs.Replaced.{cells-are, Represents-put}

module _ (x : Storage) (cpu : Cpu) (plan : Placement) (s : Session) (m : SessionJob) (t : Task) (h : RepresentsSession x cpu plan s) (runs : IsRunning plan s.jobs m t) where
  abbrev pub stack : List Activation
  stack = stack_of_task plan m.constants.number m.progress.job plan.running t

  abbrev pub shaped : Word → Shape
  shaped = shape plan m.constants.number m.progress.job (spot_in plan.running (outer_spots plan m.constants.number m.progress.job t.critical t.parents) t.frames)

  pub on_slot : RunsOn (machine_view plan s.jobs) plan.running stack
  on_slot = subst (λ (k : ℕ). RunsOn (machine_view plan s.jobs) k stack) (slot_is x cpu plan s m t h runs) (runs_here x cpu plan s m t h runs)

  pub registers : RepresentsRunning cpu.regs (machine_view plan s.jobs) plan.running stack
  registers = running_slot x cpu.core cpu.regs (machine_view plan s.jobs) plan.running stack h.holds.memory on_slot

  pub room : Room x cpu.core cpu.regs (machine_view plan s.jobs) plan.running stack
  room = room_of x cpu.core cpu.regs (machine_view plan s.jobs) plan.running stack h.holds.memory on_slot

  -- where there is room, the machine represents the session with the word
  module _ (n : ℕ) (v : Word) (w : Tagged) (job : Job) (free : IsFree m.progress.job n) (arrays : job.arrays ≡ m.progress.job.arrays)
      (tasks : job.tasks ≡ change_keyed (λ (u : Task). u.number) t.number (λ (u : Task). record t { frames = with_top_cells t.frames (v ∷ cells t) }) m.progress.job.tasks) where
    abbrev task_pushed : Task
    task_pushed = record t { frames = with_top_cells t.frames (v ∷ cells t) }

    top : OnTop m.progress.job job t task_pushed n
    top = grind arith

    pub stands_pushed : cpu.regs.s < cpu.regs.losr → MayPush (machine_view plan s.jobs).objects (shaped v) → Fits x.held (shaped v) (cpu.regs.s + 1) w
        → RepresentsSession x (pushed cpu w) plan (with_job s m job)
    stands_pushed higher may fit =
        let outer = outer_spots plan m.constants.number m.progress.job t.critical t.parents in
        let is = h.holds.running m t runs in
        let tops : top_cells stack ≡ map shaped (cells t) = cells-are plan m.constants.number m.progress.job plan.running outer t.frames in
        let d = Represents-put x cpu.core cpu.regs (machine_view plan s.jobs) plan.running stack h.holds.memory on_slot [] (map shaped (cells t)) (shaped v) w (cpu.regs.s + 1) cpu.regs.place tops
        (omega arith) (omega (arith, higher)) (λ home z. z) h.holds.settled may fit in
        let r' = (pushed cpu w).regs in
        let fs = with_top_cells t.frames (v ∷ cells t) in
        let holds = SessionHolds-top [] x cpu.core (pushed cpu w).core cpu.regs r' cpu.critical plan s m t h.holds runs job fs t.segment t.place t.condition n top (stack_with_cells stack (map shaped (v ∷ cells t)))
        (λ i low. slice_get-set_other cpu.core (cpu.regs.s + 1) i w (λ e. omega (arith, e, low, registers.first, registers.top)))
        (record { slot = refl; dict = refl; entries = refl; segment = is.segment; place = is.place })
        (critical-with m.progress.job t.frames) (activations-with plan m.constants.number m.progress.job plan.running outer t.frames (v ∷ cells t)) d.0 d.1 in
        let still = still_running [] x cpu.core (pushed cpu w).core cpu.regs r' cpu.critical plan s m t h.holds runs job fs t.segment t.place t.condition n top in
        let places : (id : ℕ) → spots plan m.constants.number job task_pushed id ≡ spots plan m.constants.number m.progress.job t id = λ id.
        (ap (λ (q : ℕ → StackPlace). spot_in (slot_of plan m.constants.number t.number) q fs id) (outer-same [] x cpu.core (pushed cpu w).core cpu.regs r' cpu.critical plan s m t h.holds runs job fs t.segment t.place t.condition n top)
        ∙ spots-with (slot_of plan m.constants.number t.number) outer t.frames id) in
        let shown : ShowsDisplay cpu.display plan (record m { progress = record m.progress { job = job } }) task_pushed = Shows-same cpu.display plan m (record m.progress { job = job }) t task_pushed runs.task tasks (known-with t.frames) places (h.shows m t runs) in
        record {
          holds = holds;
          shows = λ y u k. running_only plan (with_job s m job).jobs (record m { progress = record m.progress { job = job } }) y task_pushed u (ShowsDisplay cpu.display plan) holds.fits.rows still k shown;
        }
      where
        critical-with : (j : Job) (fs : List Frame) → critical_mark j (with_top_cells fs (v ∷ cells t)) ≡ critical_mark j fs
        critical-with j [] = refl
        critical-with j (f ∷ below) = refl

        known-with : (fs : List Frame) → map known_of (with_top_cells fs (v ∷ cells t)) ≡ map known_of fs
        known-with [] = refl
        known-with (f ∷ below) = refl

        spots-with : (k : ℕ) (outer : ℕ → StackPlace) (fs : List Frame) (id : ℕ) → spot_in k outer (with_top_cells fs (v ∷ cells t)) id ≡ spot_in k outer fs id
        spots-with k outer [] id = refl
        spots-with k outer (f ∷ below) id = refl
