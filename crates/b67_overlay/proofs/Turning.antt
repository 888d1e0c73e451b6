-- The search, word by word and slot by slot.
use Rattle.std.proofs.Common.{◌≡◌, ℕ, ◌+◌, ◌<◌, ◌≤◌, ◌^◌, List, length, Some, None, refl, sym, ◌∙◌, ap, arith, inl, inr, ◌⊎◌, ⊎_elim, slice_set}
use Rattle.std.specs.List.{slice_get}
use Rattle.std.proofs.lemmas.Bool.{cases_eq, cases_lt}
use Rattle.std.proofs.lemmas.Option.{same_Some, none-some}
use Rattle.b67_word.specs.Tagged.{Tagged}
use Rattle.b67_core.proofs.Writes.{slice_get-set_same, slice_get-set_other}
use Rattle.b67_ctl.specs.declared.marks.Toscw.{Toscw}
use Rattle.b67_ctl.specs.declared.registers.Regs.{Regs}
use Rattle.b67_ctl.specs.Layout.{toscw_word, IsToscw}
use Rattle.b67_stack.specs.Common.{Activation, stack_words, toscw_of, MachineView, Slot, Free, Running, Waiting, SlotFits, stack_of, slot_base, Storage, RepresentsSlot, Represents}
use Rattle.b67_stack.proofs.Bases.{base-apart}
use Rattle.b67_stack.proofs.Tops.{level-small, mark_high}
use Rattle.b67_stack.proofs.Reheld.{RepresentsSlots-same}
use Rattle.b67_stack.proofs.Unchanged.{base_low}
use Rattle.b67_overlay.specs.Turns.{MakesAbsent, TurnsAt, InStack, Lies}

pub lies_of : (x : Storage) (core : List Tagged) (r : Regs) (p : MachineView) → Represents x core r p → Lies core r x.low p
lies_of x core r p s = record { slots = s.slots; inside = s.inside; small = s.directory.small; base = base_low x core r p s }

top_low : (p : MachineView) (low k : ℕ) (y : Slot) → SlotFits p k y → slot_base p k < low → slot_base p k + p.size ≤ low → slot_base p k + stack_words (stack_of y) < low
top_low p low k Free f base end = omega arith
top_low p low k (Running stack) f base end = omega (arith, f.0.fits)
top_low p low k (Waiting stack) f base end = omega (arith, f.0.fits)

-- a stack lies below the areas
pub stack_low : (core : List Tagged) (r : Regs) (low : ℕ) (p : MachineView) (k : ℕ) → Lies core r low p → k < p.peak → slot_base p k + stack_words (stack_of (p.slots k)) < low
stack_low core r low p k l h = top_low p low k (p.slots k) (l.slots.laid.slots k h) (l.base k h) (omega (arith, base-apart p k p.peak h, l.slots.laid.low))

pub slot_high : (p : MachineView) (k : ℕ) (y : Slot) → SlotFits p k y → (stack_words (stack_of y) ≡ 0) ⊎ (stack_words (stack_of y) < p.size)
slot_high p k Free f = inl refl
slot_high p k (Running stack) f = inr f.0.fits
slot_high p k (Waiting stack) f = inr f.0.fits

-- and below the next slot
pub stack_before : (core : List Tagged) (r : Regs) (low : ℕ) (p : MachineView) (k j : ℕ) → Lies core r low p → k < p.peak → k < j → (i : ℕ) → InStack p k i → i < slot_base p j
stack_before core r low p k j l h kj i at = ⊎_elim
    (λ (e : stack_words (stack_of (p.slots k)) ≡ 0). absurd (omega (arith, at.0, at.1)))
    (λ (f : stack_words (stack_of (p.slots k)) < p.size). omega (arith, at.1, base-apart p k j kj))
    (slot_high p k (p.slots k) (l.slots.laid.slots k h))

module _ (area original : ℕ) where
  -- one more word is turned
  pub turned-more : (old core : List Tagged) (from i : ℕ) (v w : Tagged) → length core ≡ length old → i < length core → slice_get core i ≡ Some v → MakesAbsent area original v w
      → ((j : ℕ) → from ≤ j → j < i → TurnsAt area original old core j) → ((j : ℕ) → (j < from) ⊎ (i ≤ j) → slice_get core j ≡ slice_get old j)
      → (j : ℕ) → from ≤ j → j < i + 1 → TurnsAt area original old (slice_set core i w) j
  turned-more old core from i v w size h get t done rest j low high = ⊎_elim
      (λ (e : j ≡ i). rw e (v, w, sym (rest i (inr (omega arith))) ∙ get, slice_get-set_same core i w h, t))
      (λ (n : j ≡ i → ⊥). let r = done j low (omega arith) in (r.0, r.1, r.2, slice_get-set_other core i j w n ∙ r.3, r.4))
      (cases_eq j i)

  pub others-more : (old core : List Tagged) (from i : ℕ) (w : Tagged) → from ≤ i
      → ((j : ℕ) → (j < from) ⊎ (i ≤ j) → slice_get core j ≡ slice_get old j)
      → (j : ℕ) → (j < from) ⊎ (i + 1 ≤ j) → slice_get (slice_set core i w) j ≡ slice_get old j
  others-more old core from i w low rest j out =
      slice_get-set_other core i j w (λ e. ⊎_elim (λ (a : j < from). let z : ⊥ = omega arith in z) (λ (a : i + 1 ≤ j). let z : ⊥ = omega arith in z) out)
      ∙ rest j (⊎_elim (λ (a : j < from). inl a) (λ (a : i + 1 ≤ j). inr (omega arith)) out)

pub Lies-same : (old new : List Tagged) (r : Regs) (low : ℕ) (p : MachineView) → length new ≡ length old → ((k : ℕ) → k < p.peak → slice_get new (slot_base p k) ≡ slice_get old (slot_base p k)) → Lies old r low p → Lies new r low p
Lies-same old new r low p size same l = record { slots = RepresentsSlots-same old new r low p same l.slots; inside = rw size l.inside; small = rw size l.small; base = l.base }

pub Lies-turned : (old new : List Tagged) (r : Regs) (low : ℕ) (p : MachineView) (k : ℕ) → k < p.peak → length new ≡ length old
    → ((i : ℕ) → (i < slot_base p k + 1) ⊎ (slot_base p k + stack_words (stack_of (p.slots k)) + 1 ≤ i) → slice_get new i ≡ slice_get old i)
    → Lies old r low p → Lies new r low p
Lies-turned old new r low p k hk size rest l = Lies-same old new r low p size same l where
  above : (j : ℕ) → k < j → (slot_base p j < slot_base p k + 1) ⊎ (slot_base p k + stack_words (stack_of (p.slots k)) + 1 ≤ slot_base p j)
  above j a = ⊎_elim
      (λ (e : stack_words (stack_of (p.slots k)) ≡ 0). ⊎_elim (λ (z : slot_base p j < slot_base p k + 1). inl z) (λ (z : slot_base p k + 1 ≤ slot_base p j). inr (omega arith)) (cases_lt (slot_base p j) (slot_base p k + 1)))
      (λ (f : stack_words (stack_of (p.slots k)) < p.size). inr (omega (arith, base-apart p k j a)))
      (slot_high p k (p.slots k) (l.slots.laid.slots k hk))

  same : (j : ℕ) → j < p.peak → slice_get new (slot_base p j) ≡ slice_get old (slot_base p j)
  same j hj = ⊎_elim
      (λ (a : k < j). rest (slot_base p j) (above j a))
      (λ (a : j ≤ k). rest (slot_base p j) (inl (⊎_elim (λ (e : j ≡ k). rw e (omega arith)) (λ (n : j ≡ k → ⊥). omega (arith, base-apart p j k (omega arith))) (cases_eq j k))))
      (cases_lt k j)

-- the top of a stack that doesn't run, by its base word
module _ (core : List Tagged) (r : Regs) (p : MachineView) (k : ℕ) (w : Tagged) (get : slice_get core (slot_base p k) ≡ Some w) (not : r.slot ≡ k → ⊥) (room : p.size < 2 ^ 14) where
  top_fits : (stack : List Activation) → SlotFits p k (Waiting stack) → IsToscw (toscw_of stack)
  top_fits stack f = record { s = omega (arith, f.0.fits); level = level-small stack f.0.heads; f = omega (arith, f.0.fits, mark_high stack) }

  pub top_some : (y : Slot) (t : Toscw) → RepresentsSlot core r p k y → SlotFits p k y → IsToscw t → w ≡ toscw_word t → ((u : Toscw) → IsToscw u → w ≡ toscw_word u → Some t ≡ Some u) → t.s ≡ stack_words (stack_of y)
  top_some Free t s f i e known = let z : ◌≡◌ {A = ℕ} 3 0 = ap (λ (v : Tagged). v.tag) (sym e ∙ same_Some _ _ (sym get ∙ s.1)) in absurd (omega arith)
  top_some (Running stack) t s f i e known = absurd (not s.slot)
  top_some (Waiting stack) t s f i e known = ap (λ (u : Toscw). u.s) (same_Some _ _ (known (toscw_of stack) (top_fits stack f) (same_Some _ _ (sym get ∙ s.1))))

  pub top_none : (y : Slot) → RepresentsSlot core r p k y → SlotFits p k y → ((u : Toscw) → IsToscw u → w ≡ toscw_word u → None ≡ Some u) → stack_words (stack_of y) ≡ 0
  top_none Free s f known = refl
  top_none (Running stack) s f known = absurd (not s.slot)
  top_none (Waiting stack) s f known = absurd (none-some _ (known (toscw_of stack) (top_fits stack f) (same_Some _ _ (sym get ∙ s.1))))
