-- Cells dropped or replaced on top, after the job itself has changed.
use Rattle.std.proofs.Common.{◌≡◌, ℕ, ◌+◌, ◌-◌, ◌≤◌, List, ◌∷◌, ◌++◌, map, length, refl, sym, ◌∙◌, ap, arith, subst, slice_set}
use Rattle.std.proofs.lemmas.List.{map-append, length-map}
use Rattle.b67_core.proofs.Writes.{slice_get-set_other}
use Rattle.b67_word.specs.Tagged.{word}
use Rattle.b67_word.specs.declared.couples.Place.{Place}
use Rattle.b67_model.specs.Common.{Word, Operand, Task, SessionJob, number_of, Session}
use Rattle.b67_stack.specs.declared.Cpu.{Cpu}
use Rattle.b67_stack.specs.Common.{Shape, Is, Activation, RunsOn, Storage, RepresentsRunning, Represents, with_stack, stack_with_cells, top_cells}
use Rattle.b67_stack.proofs.Slots.{running_slot}
use Rattle.b67_layout.specs.Common.{Placement, spot_in, outer_spots, shape, stack_of_task, machine_view, IsRunning, RepresentsSession, cells}
use Rattle.b67_layout.proofs.Common.{runs_on, IsFree, session_with, RepresentsSession-cells}
use Rattle.b67_exec_cells.specs.Tops.{NoOriginals}
use Rattle.b67_exec_cells.proofs.Replaced.{cells-are, shapes_plain, Represents-less, Represents-put}
use Rattle.b67_lemmas.proofs.Members.{keyed_has}

module _ (x : Storage) (cpu : Cpu) (plan : Placement) (s : Session) (m : SessionJob) (t : Task) (h : RepresentsSession x cpu plan s) (runs : IsRunning plan s.jobs m t) (n : ℕ) (free : IsFree m.progress.job n) (q : Place) where
  abbrev stack : List Activation
  stack = stack_of_task plan m.constants.number m.progress.job plan.running t

  abbrev shaped : Word → Shape
  shaped = shape plan m.constants.number m.progress.job (spot_in plan.running (outer_spots plan m.constants.number m.progress.job t.critical t.parents) t.frames)

  runs_here : RunsOn (machine_view plan s.jobs) plan.running stack
  runs_here = runs_on plan s.jobs m t h.holds.fits.rows (keyed_has number_of m.constants.number s.jobs m runs.member).0 (keyed_has (λ (u : Task). u.number) t.number m.progress.job.tasks t runs.task).0 runs.slot runs.member runs.task

  registers : RepresentsRunning cpu.regs (machine_view plan s.jobs) plan.running stack
  registers = running_slot x cpu.core cpu.regs (machine_view plan s.jobs) plan.running stack h.holds.memory runs_here

  tops : (gone rest : List Word) → cells t ≡ gone ++ rest → top_cells stack ≡ map shaped gone ++ map shaped rest
  tops gone rest e = grind (arith, cells-are, map-append)

  low : plan.stacks ≤ cpu.regs.bosr
  low = let e = registers.first in omega (arith, e)

  -- fewer cells
  pub finish_drop : (gone rest : List Word) → cells t ≡ gone ++ rest → NoOriginals gone
      → RepresentsSession x (record cpu { regs = record cpu.regs { s = cpu.regs.s - length gone; place = q } }) plan (session_with s m t rest q)
  finish_drop gone rest e plain =
      let spot = spot_in plan.running (outer_spots plan m.constants.number m.progress.job t.critical t.parents) t.frames in
      let d = Represents-less x cpu.core cpu.regs (machine_view plan s.jobs) plan.running stack h.holds.memory runs_here (map shaped gone) (map shaped rest) q (tops gone rest e) (shapes_plain plan m.constants.number m.progress.job spot gone plain) h.holds.settled in
      let P : ℕ → Type 0 = λ i. Represents x cpu.core (record cpu.regs { s = cpu.regs.s - i; place = q }) (with_stack (machine_view plan s.jobs) plan.running (stack_with_cells stack (map shaped rest))) in
      RepresentsSession-cells x cpu (record cpu { regs = record cpu.regs { s = cpu.regs.s - length gone; place = q } }) plan s m t q h runs (λ i below. refl) (record { slot = refl; dict = refl; entries = refl; segment = refl; place = refl }) refl refl n rest free
      (subst P (length-map gone shaped) d.0) d.1

  -- a number in their place
  pub finish_keep : (gone rest : List Word) (bits i : ℕ) → cells t ≡ gone ++ rest → NoOriginals gone → i ≡ cpu.regs.s - length gone + 1 → i ≤ cpu.regs.losr → plan.stacks ≤ i
      → RepresentsSession x (record cpu { core = slice_set cpu.core i (word 0 bits); regs = record cpu.regs { s = i; place = q } }) plan (session_with s m t (Operand bits ∷ rest) q)
  finish_keep gone rest bits i e plain at inside high =
      let spot = spot_in plan.running (outer_spots plan m.constants.number m.progress.job t.critical t.parents) t.frames in
      let d = Represents-put x cpu.core cpu.regs (machine_view plan s.jobs) plan.running stack h.holds.memory runs_here (map shaped gone) (map shaped rest) (Is (word 0 bits)) (word 0 bits) i q (tops gone rest e)
      (at ∙ ap (λ (k : ℕ). cpu.regs.s - k + 1) (sym (length-map gone shaped))) inside (shapes_plain plan m.constants.number m.progress.job spot gone plain) h.holds.settled tt (refl, λ z. omega (arith, z)) in
      RepresentsSession-cells x cpu (record cpu { core = slice_set cpu.core i (word 0 bits); regs = record cpu.regs { s = i; place = q } }) plan s m t q h runs
      (λ k below. slice_get-set_other cpu.core i k (word 0 bits) (λ z. omega (arith, z, below, high))) (record { slot = refl; dict = refl; entries = refl; segment = refl; place = refl }) refl refl n (Operand bits ∷ rest) free d.0 d.1
