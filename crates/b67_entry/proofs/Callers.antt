-- The return word of an entered record on top, and the registers that it gives.
use Rattle.std.proofs.Common.{◌≡◌, ℕ, suc, ◌+◌, ◌-◌, ◌∷◌, length, Some, ◌∙◌, ap, arith, subst}
use Rattle.std.specs.List.{slice_get}
use Rattle.b67_ctl.specs.declared.registers.Regs.{Regs}
use Rattle.b67_ctl.specs.declared.marks.Rcw.{Rcw}
use Rattle.b67_ctl.specs.Layout.{rcw_word, IsRcw}
use Rattle.b67_stack.specs.declared.Cpu.{Cpu}
use Rattle.b67_stack.specs.Common.{Fits, LieDownward, Head, Entered, stack_words, top_mark, return_of, headed, words, slot_base}
use Rattle.b67_stack.proofs.Heights.{words-length}
use Rattle.b67_stack.proofs.Lies.{Lie-under}
use Rattle.b67_stack.proofs.Slots.{running_slot, running_lies}
use Rattle.b67_stack.proofs.Tops.{level-small}
use Rattle.b67_entry.specs.Left.{MayReturn, caller_regs}

module _ (cpu : Cpu) (a : MayReturn cpu) where
  -- the words of the head lie under the cells
  pub head_lies : LieDownward (Fits a.storage.held) cpu.core (suc (slot_base a.machine_view cpu.regs.slot)) (headed cpu.regs.slot (Entered a.level a.environment (Some a.back)) a.below (words cpu.regs.slot a.below))
  head_lies =
      let P : Head → Type 0 = λ h. LieDownward (Fits a.storage.held) cpu.core (suc (slot_base a.machine_view cpu.regs.slot)) (headed cpu.regs.slot h a.below (words cpu.regs.slot a.below)) in
      subst P a.entered (Lie-under (Fits a.storage.held) cpu.core (suc (slot_base a.machine_view cpu.regs.slot)) a.top.cells (headed cpu.regs.slot a.top.head a.below (words cpu.regs.slot a.below))
      (running_lies a.storage cpu.core cpu.regs a.machine_view cpu.regs.slot (a.top ∷ a.below) a.stands a.runs))

  -- where they lie
  pub mark_at : cpu.regs.f ≡ suc (slot_base a.machine_view cpu.regs.slot) + stack_words a.below
  mark_at = omega (arith, (running_slot a.storage cpu.core cpu.regs a.machine_view cpu.regs.slot (a.top ∷ a.below) a.stands a.runs).mark)

  -- the top without the record is below its mark
  pub below_mark : cpu.regs.bosr + stack_words a.below + 1 ≡ cpu.regs.f
  below_mark = omega (arith, mark_at, (running_slot a.storage cpu.core cpu.regs a.machine_view cpu.regs.slot (a.top ∷ a.below) a.stands a.runs).first)

  pub return_there : slice_get cpu.core (cpu.regs.f + 1) ≡ Some (rcw_word (return_of (Some a.back) a.below))
  return_there =
      let at : cpu.regs.f + 1 ≡ suc (slot_base a.machine_view cpu.regs.slot) + suc (length (words cpu.regs.slot a.below)) = omega (arith, mark_at, words-length cpu.regs.slot a.below) in
      ap (slice_get cpu.core) at ∙ head_lies.0.1 ∙ ap Some head_lies.0.2.0

  pub return_fits : IsRcw (return_of (Some a.back) a.below)
  return_fits = grind (arith, level-small)

  -- the registers by the words that are read
  pub regs_are : (w : Rcw) (back : ℕ) → w ≡ return_of (Some a.back) a.below → back ≡ (top_mark cpu.regs.slot (a.top ∷ a.below)).back
      → ◌≡◌ {A = Regs} (record cpu.regs { s = cpu.regs.f - 1; f = cpu.regs.f - back; level = w.level; segment = w.segment; place = w.place }) (caller_regs cpu.regs a.below a.back)
  regs_are w back is e = grind arith
