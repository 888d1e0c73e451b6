-- The running task's registers are put away.
use Rattle.std.proofs.Common.{◌≡◌, ◌≢◌, ℕ, ◌<◌, List, length, Some, refl, sym, ◌∙◌, ap, arith, false, ◌==◌, Bool, subst, slice_set}
use Rattle.std.specs.Prelude.{if◌then◌else◌}
use Rattle.std.specs.List.{slice_get}
use Rattle.std.proofs.lemmas.Bool.{ne_eqb}
use Rattle.b67_word.specs.Tagged.{Tagged}
use Rattle.b67_core.proofs.Writes.{slice_get-set_same, slice_get-set_other}
use Rattle.b67_ctl.specs.declared.registers.Regs.{Regs}
use Rattle.b67_ctl.specs.Layout.{toscw_word}
use Rattle.b67_lemmas.specs.Lists.{Has}
use Rattle.b67_lemmas.proofs.Members.{keyed_has}
use Rattle.b67_model.specs.Common.{Task, SessionJob, number_of, Session}
use Rattle.b67_stack.specs.Common.{Activation, toscw_of, MachineView, Running, Waiting, slot_base, RunsOn, with_slot, NoOriginalAboveTop, stack_of, Storage, Represents}
use Rattle.b67_stack.proofs.Slots.{running_slot, running_fits}
use Rattle.b67_layout.specs.Common.{Placement, slot_of, stack_of_task, slot_at, machine_view, IsRunning, SessionHolds}
use Rattle.b67_layout.proofs.Rows.{runs_on, slot_below}
use Rattle.b67_task.specs.Turns.{with_running}
use Rattle.b67_task.proofs.Replans.{fit_replan, stack-replan, slot_here, machine_view-turned}
use Rattle.b67_task.proofs.StackTurns.{Turned, Represents-turned, Settled-turned, SessionHolds-turned}
use Rattle.b67_task.proofs.TopWords.{running_inside}

-- registers are in use where the slot is one, and then a task runs
pub runs_of : (x : Storage) (core : List Tagged) (r : Regs) (marks : List ℕ) (plan : Placement) (s : Session) → SessionHolds x core r marks plan s → r.slot ≢ 255 → (m : SessionJob) × (t : Task) × IsRunning plan s.jobs m t
runs_of x core r marks plan s h ne = h.live (λ e. ne (h.none e))

-- no task runs where no registers are in use
pub none_runs : (x : Storage) (core : List Tagged) (r : Regs) (marks : List ℕ) (plan : Placement) (s : Session) → SessionHolds x core r marks plan s → (y : SessionJob) (u : Task) → IsRunning (with_running plan 255) s.jobs y u → ⊥
none_runs x core r marks plan s h y u q = grind (arith, slot_below, keyed_has)

module _ (x : Storage) (core : List Tagged) (r : Regs) (marks : List ℕ) (plan : Placement) (s : Session) (m : SessionJob) (t : Task)
    (h : SessionHolds x core r marks plan s) (runs : IsRunning plan s.jobs m t) where
  abbrev pub running_stack : List Activation
  running_stack = stack_of_task plan m.constants.number m.progress.job plan.running t

  has_m : Has s.jobs m
  has_m = (keyed_has number_of m.constants.number s.jobs m runs.member).0

  has_t : Has m.progress.job.tasks t
  has_t = (keyed_has (λ (u : Task). u.number) t.number m.progress.job.tasks t runs.task).0

  small : slot_of plan m.constants.number t.number < 120
  small = omega (arith, slot_below plan s.jobs m t h.fits.rows has_m has_t, h.fits.few)

  pub slot_is : r.slot ≡ plan.running
  slot_is = (h.running m t runs).slot ∙ sym runs.slot

  pub runs_here : RunsOn (machine_view plan s.jobs) r.slot running_stack
  runs_here =
      let P : ℕ → Type 0 = λ k. RunsOn (machine_view plan s.jobs) k running_stack in
      subst P (sym slot_is) (runs_on plan s.jobs m t h.fits.rows has_m has_t runs.slot runs.member runs.task)

  -- the slot waits in the new view
  waits : slot_at (with_running plan 255) s.jobs plan.running ≡ Waiting running_stack
  waits =
      let other : (plan.running == 255) ≡ false = ne_eqb plan.running 255 (λ e. omega (arith, e, runs.slot, small)) in
      slot_here (with_running plan 255) s.jobs m t (fit_replan plan 255 s.jobs h.fits.rows) h.fits.few runs.member runs.task plan.running runs.slot
      ∙ ap (λ (b : Bool). if b then Running (stack_of_task (with_running plan 255) m.constants.number m.progress.job plan.running t) else Waiting (stack_of_task (with_running plan 255) m.constants.number m.progress.job plan.running t)) other
      ∙ ap Waiting (stack-replan plan 255 m.constants.number m.progress.job plan.running t)

  pub machine_view_is : machine_view (with_running plan 255) s.jobs ≡ with_slot (machine_view plan s.jobs) plan.running (Waiting running_stack)
  machine_view_is = machine_view-turned plan s.jobs m t h.fits.rows h.fits.few runs.member runs.task plan.running runs.slot 255 (Waiting running_stack)
      (λ k ne low. ne_eqb k 255 (λ e. omega (arith, e, low))) (λ k ne low. ne_eqb k plan.running ne) waits

  module _ (new : List Tagged) (w : Tagged) (is : new ≡ slice_set core r.bosr w) (len : length new ≡ length core) (word : w ≡ toscw_word (toscw_of running_stack)) where
    runs_on_plan : RunsOn (machine_view plan s.jobs) plan.running running_stack
    runs_on_plan = runs_on plan s.jobs m t h.fits.rows has_m has_t runs.slot runs.member runs.task

    base : r.bosr ≡ slot_base (machine_view plan s.jobs) plan.running
    base = (running_slot x core r (machine_view plan s.jobs) plan.running running_stack h.memory runs_on_plan).first

    elsewhere : (i : ℕ) → i ≢ slot_base (machine_view plan s.jobs) plan.running → slice_get new i ≡ slice_get core i
    elsewhere i ne = ap (λ (c : List Tagged). slice_get c i) is ∙ slice_get-set_other core r.bosr i w (λ e. ne (e ∙ base))

    turned : Turned x core new r (record r { slot = 255 }) (machine_view plan s.jobs) plan.running (Waiting running_stack)
    turned = record {
      used = runs_on_plan.used;
      size = len;
      outside = elsewhere;
      regs = record { stacks = h.memory.slots.regs.stacks; size = h.memory.slots.regs.size; peak = h.memory.slots.regs.peak };
      elsewhere = λ j low ne. (λ e. ne (sym e ∙ slot_is), λ e. omega (arith, e, low, h.fits.few));
      fits = running_fits x core r (machine_view plan s.jobs) plan.running running_stack h.memory runs_on_plan;
      stack = ap stack_of (sym runs_on_plan.is);
      stands = (
        λ e. omega (arith, e, runs.slot, small),
        ap (slice_get new) (sym base) ∙ ap (λ (c : List Tagged). slice_get c r.bosr) is ∙ slice_get-set_same core r.bosr w (running_inside x core r (machine_view plan s.jobs) h.memory running_stack runs_here) ∙ ap Some word,
      );
    }

    room : 0 < plan.size
    room = omega (arith, (running_fits x core r (machine_view plan s.jobs) plan.running running_stack h.memory runs_on_plan).0.fits)

    pub saved : SessionHolds x new (record r { slot = 255 }) marks (with_running plan 255) s
    saved = SessionHolds-turned x core new r (record r { slot = 255 }) marks plan s 255 h
        (λ i low. elsewhere i (λ e. omega (arith, e, low)))
        (let P : MachineView → Type 0 = λ p. Represents x new (record r { slot = 255 }) p in subst P (sym machine_view_is) (Represents-turned x core new r (record r { slot = 255 }) (machine_view plan s.jobs) plan.running (Waiting running_stack) turned room h.memory))
        (subst NoOriginalAboveTop (sym machine_view_is) (Settled-turned x core new r (record r { slot = 255 }) (machine_view plan s.jobs) plan.running (Waiting running_stack) turned room h.memory h.settled))
        (λ ne. absurd (ne refl))
        (λ y u q. absurd (none_runs x core r marks plan s h y u q))
        (λ e. refl)
