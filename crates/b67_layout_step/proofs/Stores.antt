-- The machine after a store into a cell of some slot's stack.
use Rattle.std.proofs.Common.{◌≡◌, ◌≢◌, ℕ, suc, ◌+◌, ◌<◌, ◌≤◌, List, length, refl, ◌∙◌, arith, inl, inr, ◌⊎◌, ⊎_elim, subst, slice_set}
use Rattle.std.specs.List.{slice_get}
use Rattle.std.proofs.Math.ListN.{length-set}
use Rattle.std.proofs.lemmas.Bool.{cases_lt}
use Rattle.b67_word.specs.Tagged.{Tagged}
use Rattle.b67_core.proofs.Writes.{slice_get-set_other}
use Rattle.b67_area.proofs.Climbs.{area_at-low}
use Rattle.b67_area.proofs.Separation.{IsDirectory-same, controls_above}
use Rattle.b67_lemmas.specs.Lists.{Has}
use Rattle.b67_ctl.specs.declared.registers.Regs.{Regs}
use Rattle.b67_stack.specs.Common.{Copied, Shape, Copy, Fits, LieDownward, Activation, IsStack, stack_words, words, PagedObject, MachineView, Slot, Running, Waiting, stack_of, slot_base, SlotFits, CopiesName, IsLaidOut, NoOriginalAboveTop, with_slot, Storage, RepresentsSlot, Represents, info_of}
use Rattle.b67_stack.proofs.Bases.{base-apart}
use Rattle.b67_stack.proofs.Lies.{Lie-same}
use Rattle.b67_stack.proofs.Heights.{words-length}
use Rattle.b67_stack.proofs.Slots.{by_slot, Content-areas, slot_room}
use Rattle.b67_layout_step.proofs.Puts.{Puts, puts_high, puts_mark, puts_level, puts_some, puts_heads, puts_lies, puts_has, puts_low}

-- a live task's slot with another shape in a cell
pub data SlotPuts (c : Shape) (at : ℕ) : Slot → Slot → Type 0 where
  runs : {st st' : List Activation} → Puts c at st st' → SlotPuts c at (Running st) (Running st')
  waits : {st st' : List Activation} → Puts c at st st' → SlotPuts c at (Waiting st) (Waiting st')

slot_high : {c : Shape} {at : ℕ} {y y' : Slot} → SlotPuts c at y y' → stack_words (stack_of y') ≡ stack_words (stack_of y)
slot_high h = grind (arith, puts_high)

slot_low : {c : Shape} {at : ℕ} {y y' : Slot} → SlotPuts c at y y' → at < stack_words (stack_of y)
slot_low h = grind (arith, puts_low)

slot_lies : {c : Shape} {at : ℕ} {y y' : Slot} (R : Shape → ℕ → Tagged → Type 0) (core : List Tagged) (from k : ℕ) (v : Tagged) → SlotPuts c at y y' → from + at < length core → R c (from + at) v → LieDownward R core from (words k (stack_of y)) → LieDownward R (slice_set core (from + at) v) from (words k (stack_of y'))
slot_lies R core from k v h inside fit l = grind (arith, puts_lies)

stack_fits : {c : Shape} {at : ℕ} {st st' : List Activation} (room : ℕ) → Puts c at st st' → IsStack room st → IsStack room st'
stack_fits room p f = record { some = puts_some p; heads = puts_heads p f.heads; fits = (let h = puts_high p in let n = f.fits in omega (arith, h, n)) }

copies_name : {c : Shape} {at : ℕ} {st st' : List Activation} (objects : List PagedObject) (k : ℕ) → ((d : Copied) (home : ℕ) → c ≢ Copy d home) → Puts c at st st' → CopiesName objects (words k st) → CopiesName objects (words k st')
copies_name objects k plain p f = λ d home h. f d home (puts_has k d home (plain d home) p h)

slot_fits : {c : Shape} {at : ℕ} {y y' : Slot} (p : MachineView) (k : ℕ) → ((d : Copied) (home : ℕ) → c ≢ Copy d home) → SlotPuts c at y y' → SlotFits p k y → SlotFits p k y'
slot_fits p k plain (runs q) f = (stack_fits p.size q f.0, copies_name p.objects k plain q f.1)
slot_fits p k plain (waits q) f = (stack_fits p.size q f.0, copies_name p.objects k plain q f.1)

slot_size : {c : Shape} {at : ℕ} {y y' : Slot} (p : MachineView) (k : ℕ) → SlotPuts c at y y' → SlotFits p k y → stack_words (stack_of y) < p.size
slot_size p k h f = grind arith

slot_stands : (old new : List Tagged) (r : Regs) (p p' : MachineView) (j : ℕ) (y : Slot) → slot_base p' j ≡ slot_base p j → p'.size ≡ p.size → slice_get new (slot_base p j) ≡ slice_get old (slot_base p j) → RepresentsSlot old r p j y → RepresentsSlot new r p' j y
slot_stands old h r p p' j y b z same t = grind arith

slot_put : {c : Shape} {at : ℕ} {y y' : Slot} (old new : List Tagged) (r : Regs) (p : MachineView) (k : ℕ) → SlotPuts c at y y' → slice_get new (slot_base p k) ≡ slice_get old (slot_base p k) → RepresentsSlot old r p k y → RepresentsSlot new r (with_slot p k y') k y'
slot_put old new r p k (runs q) same t = grind (arith, puts_high, puts_mark, puts_level)
slot_put old new r p k (waits q) same t = grind (arith, puts_high, puts_level, puts_mark)

module _ (x : Storage) (core : List Tagged) (r : Regs) (p : MachineView) (k : ℕ) (y y' : Slot) (c : Shape) (at : ℕ) (v : Tagged) (s : Represents x core r p) (used : k < p.peak) (is : p.slots k ≡ y) (puts : SlotPuts c at y y') (plain : (d : Copied) (home : ℕ) → c ≢ Copy d home)
    (fit : Fits x.held c (suc (slot_base p k) + at) v) (no_home : (t : PagedObject) → Has p.objects t → t.home ≢ suc (slot_base p k) + at) where
  abbrev place : ℕ
  place = suc (slot_base p k) + at

  abbrev new : List Tagged
  new = slice_set core (suc (slot_base p k) + at) v

  laid : IsLaidOut x.low p
  laid = s.slots.laid

  fits : SlotFits p k y
  fits = let P : Slot → Type 0 = λ z. SlotFits p k z in subst P is (laid.slots k used)

  room : (slot_base p k < suc (slot_base p k) + at) × (suc (slot_base p k) + at < slot_base p k + p.size)
  room = let l = slot_low puts in let f = slot_size p k puts fits in (omega arith, omega (arith, l, f))

  some : 0 < p.size
  some = omega (arith, room.0, room.1)

  below_low : slot_base p k + p.size ≤ x.low
  below_low = let b = base-apart p k p.peak used in let l = laid.low in omega (arith, b, l)

  other : (i : ℕ) → (i ≤ slot_base p k) ⊎ (slot_base p k + p.size ≤ i) → slice_get (slice_set core (suc (slot_base p k) + at) v) i ≡ slice_get core i
  other i o = slice_get-set_other core (suc (slot_base p k) + at) i v (λ z. ⊎_elim (λ l. omega (arith, l, z, room.0)) (λ l. omega (arith, l, z, room.1)) o)

  elsewhere : (j : ℕ) → j < p.peak → j ≢ k → (i : ℕ) → slot_base p j ≤ i → i < slot_base p j + p.size → slice_get (slice_set core (suc (slot_base p k) + at) v) i ≡ slice_get core i
  elsewhere j hj n i down up = ⊎_elim
      (λ (a : j < k). other i (inl (omega (arith, base-apart p j k a, up))))
      (λ (a : k ≤ j). other i (inr (omega (arith, base-apart p k j (omega (arith, a, n)), down))))
      (cases_lt j k)

  fits_same : (j : ℕ) (z : Slot) → SlotFits p j z → SlotFits (with_slot p k y') j z
  fits_same j z f = grind arith

  laid' : IsLaidOut x.low (with_slot p k y')
  laid' = record {
    low = laid.low;
    first = laid.first;
    room = laid.room;
    homes = laid.homes;
    codes = laid.codes;
    differ = laid.differ;
    not_base = laid.not_base;
    lengths = laid.lengths;
    slots = by_slot p k y' (λ j z. SlotFits (with_slot p k y') j z) (fits_same k y' (slot_fits p k plain puts fits)) (λ j hj n. fits_same j (p.slots j) (laid.slots j hj));
  }

  pub Represents-store : Represents x (slice_set core (suc (slot_base p k) + at) v) r (with_slot p k y')
  Represents-store = record {
    slots = record {
      laid = laid';
      regs = record { stacks = s.slots.regs.stacks; size = s.slots.regs.size; peak = s.slots.regs.peak };
      slots = by_slot p k y' (λ j z. RepresentsSlot (slice_set core (suc (slot_base p k) + at) v) r (with_slot p k y') j z)
          (slot_put core (slice_set core (suc (slot_base p k) + at) v) r p k puts (other (slot_base p k) (inl (omega arith))) (let P : Slot → Type 0 = λ z. RepresentsSlot core r p k z in subst P is (s.slots.slots k used)))
          (λ j hj n. slot_stands core (slice_set core (suc (slot_base p k) + at) v) r p (with_slot p k y') j (p.slots j) refl refl (elsewhere j hj n (slot_base p j) (omega arith) (omega (arith, some))) (s.slots.slots j hj));
    };
    stacks = by_slot p k y' (λ j z. LieDownward (Fits x.held) (slice_set core (suc (slot_base p k) + at) v) (suc (slot_base p j)) (words j (stack_of z)))
        (slot_lies (Fits x.held) core (suc (slot_base p k)) k v puts (let i = s.inside in omega (arith, room.1, below_low, i)) fit (let P : Slot → Type 0 = λ z. LieDownward (Fits x.held) core (suc (slot_base p k)) (words k (stack_of z)) in subst P is (s.stacks k used)))
        (λ j hj n. Lie-same (Fits x.held) core (slice_set core (suc (slot_base p k) + at) v) (suc (slot_base p j)) (words j (stack_of (p.slots j)))
        (λ i down up. elsewhere j hj n i (omega (arith, down)) (let w = words-length j (stack_of (p.slots j)) in let f = slot_room p j (p.slots j) (laid.slots j hj) some in omega (arith, up, w, f))) (s.stacks j hj));
    objects = λ t int. (let was = s.objects t int in
        record {
          home = slice_get-set_other core (suc (slot_base p k) + at) t.home v (no_home t int) ∙ was.home;
          content = Content-areas x core (slice_set core (suc (slot_base p k) + at) v) t (x.held t.home).area (x.held t.home).chain
              (λ b q. let o = s.owned.of_held t.home b q in let l = area_at-low x.low x.spans b (info_of x o.0) o.3 in omega (arith, l))
              (λ q up. other q (inr (omega (arith, up, below_low)))) was.content;
        });
    owned = record { of_area = s.owned.of_area; of_held = s.owned.of_held; of_chain = s.owned.of_chain; no_zero = s.owned.no_zero; one_chain = s.owned.one_chain };
    directory = IsDirectory-same core (slice_set core (suc (slot_base p k) + at) v) x.low x.spans (length-set core (suc (slot_base p k) + at) v)
        (λ i h. other i (inl (let f = laid.first in omega (arith, h.1, f))))
        (λ i h. other i (inr (let l = controls_above x.low x.spans i h in omega (arith, l, below_low)))) s.directory;
    inside = (let i = s.inside in let n = length-set core (suc (slot_base p k) + at) v in omega (arith, i, n));
  }

  pub Settled-store : NoOriginalAboveTop p → NoOriginalAboveTop (with_slot p k y')
  Settled-store settled t int = grind (arith, slot_high)
