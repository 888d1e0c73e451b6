-- Top of stack words, and where they stand.
use Rattle.std.proofs.Common.{◌≡◌, ℕ, ◌+◌, ◌-◌, ◌<◌, ◌≤◌, ◌^◌, List, length, Some, arith, subst}
use Rattle.std.specs.List.{slice_get}
use Rattle.b67_word.specs.Tagged.{Tagged}
use Rattle.b67_ctl.specs.declared.registers.Regs.{Regs}
use Rattle.b67_ctl.specs.Layout.{toscw_word, IsToscw}
use Rattle.b67_stack.specs.Common.{Activation, IsStack, words, toscw_of, MachineView, Slot, slot_base, RunsOn, SlotFits, CopiesName, Storage, RepresentsSlot, Represents}
use Rattle.b67_stack.proofs.Bases.{base-apart}
use Rattle.b67_stack.proofs.Tops.{level-small, mark_high}
use Rattle.b67_stack.proofs.Slots.{running_slot, running_fits}
use Rattle.b67_task.specs.Turns.{WaitsOn}

pub toscw_fits : (size : ℕ) (stack : List Activation) → IsStack size stack → size < 2 ^ 14 → IsToscw (toscw_of stack)
toscw_fits size stack f room = record { s = omega (arith, f.fits); level = level-small stack f.heads; f = omega (arith, f.fits, mark_high stack) }

module _ (x : Storage) (core : List Tagged) (r : Regs) (p : MachineView) (s : Represents x core r p) where
  pub base_inside : (k : ℕ) → k < p.peak → 0 < p.size → slot_base p k + p.size ≤ length core
  base_inside k h room = omega (arith, base-apart p k p.peak h, s.slots.laid.low, s.inside)

  module _ (stack : List Activation) (u : RunsOn p r.slot stack) where
    pub running_top : IsToscw (record { s = r.s - r.bosr; level = r.level; f = r.f - r.bosr })
    running_top =
        let g = running_slot x core r p r.slot stack s u in
        let w = toscw_fits p.size stack (running_fits x core r p r.slot stack s u).0 s.slots.laid.room in
        record { s = omega (arith, g.top, g.first, w.s); level = omega (arith, g.level, w.level); f = omega (arith, g.mark, g.first, w.f) }

    pub running_word : toscw_word (record { s = r.s - r.bosr; level = r.level; f = r.f - r.bosr }) ≡ toscw_word (toscw_of stack)
    running_word = grind arith

    pub running_inside : r.bosr < length core
    running_inside = omega (arith, (running_slot x core r p r.slot stack s u).first, base_inside r.slot u.used (omega (arith, (running_fits x core r p r.slot stack s u).0.fits)), (running_fits x core r p r.slot stack s u).0.fits)

  module _ (k : ℕ) (stack : List Activation) (w : WaitsOn p k stack) where
    pub waiting_fits : IsStack p.size stack × CopiesName p.objects (words k stack)
    waiting_fits = let P : Slot → Type 0 = λ y. SlotFits p k y in subst P w.is (s.slots.laid.slots k w.used)

    pub waiting_word : slice_get core (slot_base p k) ≡ Some (toscw_word (toscw_of stack))
    waiting_word = (let P : Slot → Type 0 = λ y. RepresentsSlot core r p k y in subst P w.is (s.slots.slots k w.used)).1

    pub waiting_top : IsToscw (toscw_of stack)
    waiting_top = toscw_fits p.size stack waiting_fits.0 s.slots.laid.room
