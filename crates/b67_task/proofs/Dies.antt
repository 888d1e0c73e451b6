-- What is left of a task that dies are its arrays, and these are given back.
use Rattle.std.proofs.Common.{◌≡◌, ◌≢◌, ℕ, ◌+◌, ◌*◌, ◌<◌, ◌≤◌, List, ◌++◌, length, Option, Some, sym, ◌∙◌, ap, arith, ◌⊎◌, ⊎_elim, slice_set, length-set}
use Rattle.std.specs.List.{slice_get}
use Rattle.b67_word.specs.Tagged.{Tagged, word}
use Rattle.b67_core.proofs.Writes.{slice_get-set_same, slice_get-set_other}
use Rattle.b67_area.specs.declared.Areas.{Areas}
use Rattle.b67_backing.specs.Shelf.{Table}
use Rattle.b67_ctl.specs.declared.registers.Regs.{Regs}
use Rattle.b67_stack.specs.declared.Cpu.{Cpu}
use Rattle.b67_stack.specs.Common.{stack_words, PagedObject, Slot, Free, stack_of, MachineView, slot_base, SlotFits, with_slot, Storage, Represents}
use Rattle.b67_stack.proofs.Bases.{base-apart}
use Rattle.b67_stack.proofs.Slots.{by_slot}
use Rattle.b67_layout.specs.Machine.{MachineRepresentsView}
use Rattle.b67_layout.specs.Session.{with_objects}
use Rattle.b67_layout.proofs.Objects.{SameObjects, Represents-objects}
use Rattle.b67_task.specs.Released.{of_objects, AreLeft}
use Rattle.b67_task.specs.Vacated.{put_out, vacated, SlotVacated, died, MayDie}
use Rattle.b67_task.proofs.Vacates.{Represents-vacated}

by_test : (r : Regs) (k : ℕ) → ((r.slot ≢ k) × (put_out r k ≡ r)) ⊎ ((r.slot ≡ k) × (put_out r k ≡ record r { slot = 255 }))
by_test r k = grind arith

fits_rest : (p : MachineView) (rest : List PagedObject) (k q : ℕ) (s : Slot) → SlotFits (of_objects p rest) q s → SlotFits (died p k rest) q s
fits_rest p rest k q s f = grind arith

module _ (x : Storage) (cpu : Cpu) (p : MachineView) (k : ℕ) (gone rest : List PagedObject) (s : Represents x cpu.core cpu.regs p) (may : MayDie p cpu.core k gone rest) where
  base : ℕ
  base = slot_base p k

  pub room : 0 < p.size
  room = omega (arith, may.room)

  pub inside : slot_base p k + p.size ≤ slot_base p p.peak
  inside = base-apart p k p.peak may.used

  pub low : 160 ≤ slot_base p k
  low = omega (arith, s.slots.laid.first)

  pub core_long : slot_base p k + p.size ≤ length cpu.core
  core_long = omega (arith, inside, s.slots.laid.low, s.inside)

  pub base_is : (a b : ℕ) → a ≡ k → b ≡ cpu.regs.stack_size → cpu.regs.stacks + a * b ≡ slot_base p k
  base_is a b ea eb = grind arith

  pub top_at : (at top : ℕ) → at ≡ slot_base p k → top ≡ at + stack_words (stack_of (p.slots k)) → top ≡ slot_base p k + stack_words (stack_of (p.slots k))
  top_at at top start e = e ∙ ap (λ (n : ℕ). n + stack_words (stack_of (p.slots k))) start

  module _ (new : Cpu) (at : ℕ) (start : at ≡ slot_base p k) (is : new ≡ vacated cpu k at) where
    written : List Tagged
    written = slice_set cpu.core at (word 0 0)

    core_is : new.core ≡ slice_set (slice_set cpu.core at (word 0 0)) (32 + k) (word 0 0)
    core_is = ap (λ (c : Cpu). c.core) is

    pub outside : (i : ℕ) → i ≢ slot_base p k → i ≢ 32 + k → slice_get new.core i ≡ slice_get cpu.core i
    outside i a b = grind (arith, slice_get-set_other)

    pub size : length new.core ≡ length cpu.core
    size = ap (λ (c : List Tagged). length c) core_is ∙ length-set (slice_set cpu.core at (word 0 0)) (32 + k) (word 0 0) ∙ length-set cpu.core at (word 0 0)

    zero_there : slice_get new.core (slot_base p k) ≡ Some (word 0 0)
    zero_there = grind (arith, slice_get-set_other, slice_get-set_same)

    pub vector_zero : slice_get new.core (32 + k) ≡ Some (word 0 0)
    vector_zero = grind (arith, slice_get-set_same, length-set)

    is_vacated : SlotVacated cpu.core new.core cpu.regs new.regs p k
    is_vacated = grind (arith, size, zero_there, outside)

    -- the machine represents the view without the task, with its arrays left
    pub left_stands : Represents x new.core new.regs (with_objects gone (died p k rest))
    left_stands =
        let same : SameObjects p.objects (gone ++ rest) = record { there = may.there; back = may.back } in
        let here_stands = Represents-vacated x cpu.core new.core cpu.regs new.regs p k is_vacated s in
        Represents-objects x new.core new.regs (with_slot p k Free) (gone ++ rest) same here_stands

    pub are_left : (top : ℕ) → top ≡ slot_base p k + stack_words (stack_of (p.slots k)) → AreLeft (died p k rest) new.core (at + 1) (top + 1) gone
    are_left top up = record {
      low = omega (arith, start, s.slots.laid.first);
      high = omega (arith, up, may.room, inside);
      each = λ i w from upto get original. may.each i w (omega (arith, from, start)) (omega (arith, upto, up))
          (sym (outside i (λ e. omega (arith, e, from, start)) (λ e. omega (arith, e, from, start, low, may.used, may.few))) ∙ get) original;
      among = λ t i. let a = may.among t i in (omega (arith, a.0, start), omega (arith, a.1, up));
      arrays = may.arrays;
      alone = may.alone;
      fits = by_slot p k Free (λ q z. SlotFits (died p k rest) q z) tt (λ q hq ne. fits_rest p rest k q (p.slots q) (may.fits q hq ne));
    }

    pub machine_left : (areas : Areas) (table : Table) (told : Option (List (List ℕ))) → MachineRepresentsView x cpu areas table told p → MachineRepresentsView x new areas table told (with_objects gone (died p k rest))
    machine_left areas table told m = record { stands = left_stands; low = m.low; shelf = m.shelf; device = m.device }
