-- The registers of a waiting task come into use.
use Rattle.std.proofs.Common.{◌≡◌, ℕ, ◌+◌, ◌-◌, ◌*◌, ◌<◌, List, refl, sym, ◌∙◌, ap, arith, ◌==◌, Bool, subst}
use Rattle.std.specs.Prelude.{if◌then◌else◌}
use Rattle.std.proofs.lemmas.Bool.{ne_eqb, eq-eqb}
use Rattle.b67_word.specs.Tagged.{Tagged}
use Rattle.b67_ctl.specs.declared.registers.Regs.{Regs}
use Rattle.b67_lemmas.specs.Lists.{Has}
use Rattle.b67_lemmas.proofs.Members.{keyed_has}
use Rattle.b67_model.specs.Common.{Task, SessionJob, number_of, Session}
use Rattle.b67_stack.specs.Common.{Activation, stack_words, mark_place, stack_level, MachineView, Running, Waiting, slot_base, with_slot, NoOriginalAboveTop, stack_of, Storage, RepresentsRegs, Represents}
use Rattle.b67_layout.specs.Common.{Placement, stack_of_task, slot_at, machine_view, IsRunning, RepresentsTask, SessionHolds}
use Rattle.b67_layout.proofs.Rows.{slot_below}
use Rattle.b67_layout.proofs.Sessions.{running_only}
use Rattle.b67_task.specs.declared.registers.Turn.{Turn}
use Rattle.b67_task.specs.Turns.{with_running, IsTurnOf, WaitsOn, loaded}
use Rattle.b67_task.proofs.Replans.{fit_replan, stack-replan, slot_here, machine_view-turned}
use Rattle.b67_task.proofs.StackTurns.{Turned, Represents-turned, Settled-turned, SessionHolds-turned}
use Rattle.b67_task.proofs.TopWords.{waiting_fits}

module _ (x : Storage) (core : List Tagged) (r : Regs) (marks : List ℕ) (plan : Placement) (s : Session) (m : SessionJob) (t : Task) (turn : Turn)
    (h : SessionHolds x core r marks plan s) (none : plan.running ≡ 255) (q : IsTurnOf plan s.jobs m t turn) where
  abbrev pub waiting_stack : List Activation
  waiting_stack = stack_of_task plan m.constants.number m.progress.job turn.slot t

  has_m : Has s.jobs m
  has_m = (keyed_has number_of m.constants.number s.jobs m q.member).0

  has_t : Has m.progress.job.tasks t
  has_t = (keyed_has (λ (u : Task). u.number) t.number m.progress.job.tasks t q.task).0

  used : turn.slot < plan.peak
  used = omega (arith, q.slot, slot_below plan s.jobs m t h.fits.rows has_m has_t)

  pub waits_on : WaitsOn (machine_view plan s.jobs) turn.slot waiting_stack
  waits_on = grind (arith, used, slot_here)

  runs_now : slot_at (with_running plan turn.slot) s.jobs turn.slot ≡ Running waiting_stack
  runs_now =
      slot_here (with_running plan turn.slot) s.jobs m t (fit_replan plan turn.slot s.jobs h.fits.rows) h.fits.few q.member q.task turn.slot q.slot
      ∙ ap (λ (b : Bool). if b then Running (stack_of_task (with_running plan turn.slot) m.constants.number m.progress.job turn.slot t) else Waiting (stack_of_task (with_running plan turn.slot) m.constants.number m.progress.job turn.slot t)) (eq-eqb turn.slot turn.slot refl)
      ∙ ap Running (stack-replan plan turn.slot m.constants.number m.progress.job turn.slot t)

  machine_view_is : machine_view (with_running plan turn.slot) s.jobs ≡ with_slot (machine_view plan s.jobs) turn.slot (Running waiting_stack)
  machine_view_is = machine_view-turned plan s.jobs m t h.fits.rows h.fits.few q.member q.task turn.slot q.slot turn.slot (Running waiting_stack)
      (λ k ne low. ne_eqb k turn.slot ne) (λ k ne low. ne_eqb k plan.running (λ e. omega (arith, e, low, none))) runs_now

  pub runs : IsRunning (with_running plan turn.slot) s.jobs m t
  runs = record { member = q.member; task = q.task; slot = q.slot }

  abbrev pub new_regs : Regs
  new_regs = loaded r (machine_view plan s.jobs) waiting_stack turn

  turned : Turned x core core r new_regs (machine_view plan s.jobs) turn.slot (Running waiting_stack)
  turned = record {
    used = used;
    size = refl;
    outside = λ i ne. refl;
    regs = record { stacks = h.memory.slots.regs.stacks; size = h.memory.slots.regs.size; peak = h.memory.slots.regs.peak };
    elsewhere = λ j low ne. (λ e. omega (arith, e, h.none none, low, h.fits.few), λ e. ne (sym e));
    fits = waiting_fits x core r (machine_view plan s.jobs) h.memory turn.slot waiting_stack waits_on;
    stack = ap stack_of (sym waits_on.is);
    stands = record { slot = refl; first = refl; last = omega (arith, room); top = refl; mark = refl; level = refl };
  } where
    room : 0 < plan.size
    room = omega (arith, (waiting_fits x core r (machine_view plan s.jobs) h.memory turn.slot waiting_stack waits_on).0.fits)

  room : 0 < plan.size
  room = omega (arith, (waiting_fits x core r (machine_view plan s.jobs) h.memory turn.slot waiting_stack waits_on).0.fits)

  pub loaded_holds : SessionHolds x core (loaded r (machine_view plan s.jobs) waiting_stack turn) marks (with_running plan turn.slot) s
  loaded_holds = SessionHolds-turned x core core r new_regs marks plan s turn.slot h
      (λ i low. refl)
      (let P : MachineView → Type 0 = λ p. Represents x core new_regs p in subst P (sym machine_view_is) (Represents-turned x core core r new_regs (machine_view plan s.jobs) turn.slot (Running waiting_stack) turned room h.memory))
      (subst NoOriginalAboveTop (sym machine_view_is) (Settled-turned x core core r new_regs (machine_view plan s.jobs) turn.slot (Running waiting_stack) turned room h.memory h.settled))
      (λ ne. (m, t, runs))
      (λ y u p. running_only (with_running plan turn.slot) s.jobs m y t u (RepresentsTask new_regs (with_running plan turn.slot)) (fit_replan plan turn.slot s.jobs h.fits.rows) runs p (record { slot = q.slot; dict = q.dict; entries = q.entries; segment = q.segment; place = q.place }))
      (λ e. e)

-- the registers as the code makes them
pub loaded_is : (r : Regs) (p : MachineView) (stack : List Activation) (turn : Turn) (b z u v l : ℕ) → b ≡ slot_base p turn.slot → z ≡ p.size → u ≡ stack_words stack → v ≡ mark_place stack → l ≡ stack_level stack
    → (let made : Regs = record { s = b + u; f = b + v; bosr = b; losr = b + z - 1; slot = turn.slot; level = l; segment = turn.segment; place = turn.place; dict = turn.dict; entries = turn.entries; stacks = r.stacks; stack_size = r.stack_size; peak = r.peak } in made) ≡ loaded r p stack turn
loaded_is r p stack turn b z u v l eb ez eu ev el = rw (eb, ez, eu, ev, el) refl

pub base_is : (r : Regs) (p : MachineView) → RepresentsRegs r p → (a b k : ℕ) → a ≡ k → b ≡ r.stack_size → r.stacks + a * b ≡ slot_base p k
base_is r p g a b k e f = rw (e, f, g.stacks, g.size) refl

-- a task's turn under another plan
pub turn_in : (plan : Placement) (k : ℕ) (jobs : List SessionJob) (m : SessionJob) (t : Task) (turn : Turn) → IsTurnOf plan jobs m t turn → IsTurnOf (with_running plan k) jobs m t turn
turn_in plan k jobs m t turn q = record { member = q.member; task = q.task; slot = q.slot; dict = q.dict; entries = q.entries; segment = q.segment; place = q.place }

-- after no registers were in use
module _ (x : Storage) (core : List Tagged) (r : Regs) (marks : List ℕ) (plan : Placement) (s : Session) (m : SessionJob) (t : Task) (turn : Turn)
    (h : SessionHolds x core r marks (with_running plan 255) s) (q : IsTurnOf plan s.jobs m t turn) where
  abbrev pub stack_then : List Activation
  stack_then = stack_of_task (with_running plan 255) m.constants.number m.progress.job turn.slot t

  pub waits_then : WaitsOn (machine_view (with_running plan 255) s.jobs) turn.slot stack_then
  waits_then = waits_on x core r marks (with_running plan 255) s m t turn h refl (turn_in plan 255 s.jobs m t turn q)

  pub runs_then : IsRunning (with_running plan turn.slot) s.jobs m t
  runs_then = record { member = q.member; task = q.task; slot = q.slot }

  pub holds_then : (new : Regs) → new ≡ loaded r (machine_view (with_running plan 255) s.jobs) stack_then turn → SessionHolds x core new marks (with_running plan turn.slot) s
  holds_then new e =
      let P : Regs → Type 0 = λ z. SessionHolds x core z marks (with_running plan turn.slot) s in
      subst P (sym e) (loaded_holds x core r marks (with_running plan 255) s m t turn h refl (turn_in plan 255 s.jobs m t turn q))
