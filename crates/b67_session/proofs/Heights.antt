-- How high a task's stack and its topmost mark stand over the stack's base, by its registers or by the word at that base.
use Rattle.std.proofs.Common.{◌≡◌, ◌≢◌, ℕ, ◌+◌, ◌-◌, List, [], ap, ◌∙◌, arith, Bool}
use Rattle.std.specs.Prelude.{if◌then◌else◌}
use Rattle.std.proofs.lemmas.Bool.{ne_eqb}
use Rattle.b67_model.specs.Common.{Frame, Task, Job, SessionJob, Session, height, below_top}
use Rattle.b67_stack.specs.Common.{StackPlace, Activation, stack_words, mark_place, Running, Waiting, MachineView, Storage, Represents}
use Rattle.b67_stack.specs.declared.Cpu.{Cpu}
use Rattle.b67_layout.specs.Common.{Placement, slot_of, activations, stack_of_task, machine_view, IsRunning, RepresentsSession}
use Rattle.b67_layout.proofs.Frames.{height-is}
use Rattle.b67_layout.proofs.Rows.{slot_below}
use Rattle.b67_layout.proofs.Starts.{runs_here}
use Rattle.b67_task.specs.Turns.{WaitsOn, WaitsInOne}
use Rattle.b67_task.proofs.Replans.{slot_here}
use Rattle.b67_law.specs.Turns.{IsNext}
use Rattle.b67_session.specs.Search.{mark_height}
use Rattle.b67_session.proofs.Next.{in_session, in_job, found, task_found}

-- a task's stack is so high, and its topmost mark stands so high
abbrev pub AreHeights : ℕ → ℕ → Task → Type 0
AreHeights top mark t = (top + 1 ≡ height t.frames) × (mark ≡ mark_height t)

of_frames : (plan : Placement) (j : ℕ) (job : Job) (k : ℕ) (outer : ℕ → StackPlace) (fs : List Frame) → activations plan j job k outer fs ≢ [] → (stack_words (activations plan j job k outer fs) + 1 ≡ height fs) × (mark_place (activations plan j job k outer fs) ≡ height (below_top fs))
of_frames plan j job k outer fs some = grind (arith, height-is)

pub running_heights : (x : Storage) (cpu : Cpu) (plan : Placement) (s : Session) (m : SessionJob) (t : Task) → RepresentsSession x cpu plan s → IsRunning plan s.jobs m t → AreHeights (cpu.regs.s - cpu.regs.bosr) (cpu.regs.f - cpu.regs.bosr) t
running_heights x cpu plan s m t h runs =
    let stack = stack_of_task plan m.constants.number m.progress.job plan.running t in
    let on = runs_here x cpu plan s m t h runs in
    grind (arith, of_frames)

-- the task that makes the next step waits where its registers aren't in use
module _ (x : Storage) (cpu : Cpu) (plan : Placement) (s : Session) (m : SessionJob) (t : Task) (h : RepresentsSession x cpu plan s) (n : IsNext s m t) (slot : ℕ) (here : slot ≡ slot_of plan m.constants.number t.number) (other : slot ≢ plan.running) where
  abbrev stack : List Activation
  stack = stack_of_task plan m.constants.number m.progress.job slot t

  waits : WaitsOn (machine_view plan s.jobs) slot stack
  waits = record {
    used = omega (arith, here, slot_below plan s.jobs m t h.holds.fits.rows (in_session s m t n) (in_job s m t n));
    is = slot_here plan s.jobs m t h.holds.fits.rows h.holds.fits.few (found s m t n) (task_found s m t n) slot here
        ∙ ap (λ (b : Bool). if b then Running (stack_of_task plan m.constants.number m.progress.job slot t) else Waiting (stack_of_task plan m.constants.number m.progress.job slot t)) (ne_eqb slot plan.running other);
  }

  pub waits_in_one : WaitsInOne cpu.core cpu.regs slot
  waits_in_one = record { storage = x; machine_view = machine_view plan s.jobs; stack = stack; stands = h.holds.memory; waits = waits }

  pub waiting_heights : (top mark : ℕ) → ((y : Storage) (p : MachineView) (st : List Activation) → Represents y cpu.core cpu.regs p → WaitsOn p slot st → (top ≡ stack_words st) × (mark ≡ mark_place st)) → AreHeights top mark t
  waiting_heights top mark tell =
      let told = tell x (machine_view plan s.jobs) stack h.holds.memory waits in
      grind (arith, waits, of_frames)
