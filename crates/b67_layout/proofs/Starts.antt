-- A machine that represents a session with a running task meets what push, pop, mark and cut ask for.
use Rattle.std.proofs.Common.{◌≡◌, ℕ, sym, ◌∙◌, subst}
use Rattle.b67_model.specs.Common.{Task, SessionJob, number_of, Session}
use Rattle.b67_stack.specs.declared.Cpu.{Cpu}
use Rattle.b67_stack.specs.Common.{RunsOn, Storage, Runs}
use Rattle.b67_layout.specs.Common.{Placement, machine_view, stack_of_task, IsRunning, RepresentsSession}
use Rattle.b67_layout.proofs.Rows.{runs_on}
use Rattle.b67_lemmas.proofs.Members.{keyed_has}

module _ (x : Storage) (cpu : Cpu) (plan : Placement) (s : Session) (m : SessionJob) (t : Task) (h : RepresentsSession x cpu plan s) (runs : IsRunning plan s.jobs m t) where
  -- the running slot is that of the registers
  pub slot_is : cpu.regs.slot ≡ plan.running
  slot_is = (h.holds.running m t runs).slot ∙ sym runs.slot

  pub runs_here : RunsOn (machine_view plan s.jobs) cpu.regs.slot (stack_of_task plan m.constants.number m.progress.job plan.running t)
  runs_here =
      let P : ℕ → Type 0 = λ k. RunsOn (machine_view plan s.jobs) k (stack_of_task plan m.constants.number m.progress.job plan.running t) in
      subst P (sym slot_is) (runs_on plan s.jobs m t h.holds.fits.rows (keyed_has number_of m.constants.number s.jobs m runs.member).0 (keyed_has (λ (u : Task). u.number) t.number m.progress.job.tasks t runs.task).0 runs.slot runs.member runs.task)

  pub meets_runs : Runs cpu
  meets_runs = record { storage = x; machine_view = machine_view plan s.jobs; stack = stack_of_task plan m.constants.number m.progress.job plan.running t; stands = h.holds.memory; runs = runs_here }
