-- The displacement of the topmost critical mark tells whether the top frame is critical.
use Rattle.std.proofs.Common.{◌≡◌, ◌≢◌, ℕ, suc, ◌-◌, ◌<◌, ◌≤◌, List, [], ◌∷◌, Some, refl, sym, ◌∙◌, ap, arith, eqb, get_or}
use Rattle.std.specs.List.{slice_get}
use Rattle.std.proofs.lemmas.Option.{get_or_from_slice_get}
use Rattle.b67_model.specs.Common.{Frame, Task, Job, SessionJob, height, top, number_of, is_critical, Session}
use Rattle.b67_layout.specs.Common.{IsInOrderButCounts, Placement, outer_spots, activations, stack_of_task, machine_view, IsRunning, RepresentsSession, critical_mark}
use Rattle.b67_stack.specs.declared.Cpu.{Cpu}
use Rattle.b67_stack.specs.Common.{stack_words, mark_place, Storage, RepresentsRunning}
use Rattle.b67_stack.proofs.Slots.{running_slot}
use Rattle.b67_layout.proofs.Common.{height-is, running_in_order, slot_below, runs_here}
use Rattle.b67_lemmas.proofs.Members.{keyed_has}

mark_under : (job : Job) (fs : List Frame) → critical_mark job fs < height fs
mark_under job [] = omega arith
mark_under job (f ∷ below) = grind (arith, mark_under job below)

tells : (job : Job) (f : Frame) (below : List Frame) → eqb (critical_mark job (f ∷ below)) (height below) ≡ is_critical job f.identity
tells job f below = grind (arith, mark_under)

module _ (x : Storage) (cpu : Cpu) (plan : Placement) (s : Session) (m : SessionJob) (t : Task) (o : IsInOrderButCounts s) (h : RepresentsSession x cpu plan s) (runs : IsRunning plan s.jobs m t) where
  pub slot_small : cpu.regs.slot < 120
  slot_small = omega (arith, (h.holds.running m t runs).slot, h.holds.fits.few, slot_below plan s.jobs m t h.holds.fits.rows (keyed_has number_of m.constants.number s.jobs m runs.member).0 (keyed_has (λ (u : Task). u.number) t.number m.progress.job.tasks t runs.task).0)

  stack_is : RepresentsRunning cpu.regs (machine_view plan s.jobs) cpu.regs.slot (stack_of_task plan m.constants.number m.progress.job plan.running t)
  stack_is = running_slot x cpu.core cpu.regs (machine_view plan s.jobs) cpu.regs.slot (stack_of_task plan m.constants.number m.progress.job plan.running t) h.holds.memory (runs_here x cpu plan s m t h runs)

  pub base_low : cpu.regs.bosr ≤ cpu.regs.f
  base_low = omega (arith, stack_is.first, stack_is.mark)

  -- the word of the running slot
  pub word_there : slice_get cpu.critical cpu.regs.slot ≡ Some (critical_mark m.progress.job t.frames)
  word_there = ap (slice_get cpu.critical) (h.holds.running m t runs).slot ∙ h.holds.critical.live m t (keyed_has number_of m.constants.number s.jobs m runs.member).0 (keyed_has (λ (u : Task). u.number) t.number m.progress.job.tasks t runs.task).0

  place_is : (fs : List Frame) → fs ≢ [] → mark_place (activations plan m.constants.number m.progress.job plan.running (outer_spots plan m.constants.number m.progress.job t.critical t.parents) fs) ≡ cpu.regs.f - cpu.regs.bosr
      → eqb (critical_mark m.progress.job fs) (cpu.regs.f - cpu.regs.bosr) ≡ is_critical m.progress.job (top fs).identity
  place_is [] some e = absurd (some refl)
  place_is (f ∷ below) some e =
      let is : height below ≡ cpu.regs.f - cpu.regs.bosr = height-is plan m.constants.number m.progress.job plan.running (outer_spots plan m.constants.number m.progress.job t.critical t.parents) below ∙ (let z : suc (stack_words (activations plan m.constants.number m.progress.job plan.running (outer_spots plan m.constants.number m.progress.job t.critical t.parents) below)) ≡ cpu.regs.f - cpu.regs.bosr = omega (arith, e) in z) in
      ap (eqb (critical_mark m.progress.job (f ∷ below))) (sym is) ∙ tells m.progress.job f below

  pub tells_critical : (slot mark : ℕ) → slot ≡ cpu.regs.slot → mark ≡ get_or cpu.critical slot 0 → eqb mark (cpu.regs.f - cpu.regs.bosr) ≡ is_critical m.progress.job (top t.frames).identity
  tells_critical slot mark at e =
      let same : mark ≡ critical_mark m.progress.job t.frames = e ∙ get_or_from_slice_get cpu.critical slot (critical_mark m.progress.job t.frames) 0 (ap (slice_get cpu.critical) at ∙ word_there) in
      ap (λ (n : ℕ). eqb n (cpu.regs.f - cpu.regs.bosr)) same ∙ place_is t.frames (running_in_order plan s m t o runs).1.some (omega (arith, stack_is.first, stack_is.mark))
