-- A stack in a slot in which no task lived: the machine represents the view with that stack waiting there.
use Rattle.std.proofs.Common.{◌≡◌, ◌≢◌, ℕ, ◌+◌, ◌<◌, ◌≤◌, List, [], ◌∷◌, ◌∙◌, arith, inl, inr, ⊎_elim}
use Rattle.std.specs.List.{slice_get}
use Rattle.std.proofs.lemmas.Bool.{cases_lt}
use Rattle.b67_word.specs.Tagged.{Tagged}
use Rattle.b67_area.specs.Spans.{Span, Area, Hole}
use Rattle.b67_area.proofs.Climbs.{area_at-low}
use Rattle.b67_area.proofs.Separation.{Controls, IsDirectory-same}
use Rattle.b67_ctl.specs.declared.registers.Regs.{Regs}
use Rattle.b67_lemmas.specs.Lists.{Has}
use Rattle.b67_stack.specs.Common.{Activation, stack_words, words, PagedObject, Slot, Waiting, stack_of, MachineView, slot_base, SlotFits, IsLaidOut, with_slot, NoOriginalAboveTop, Storage, RepresentsSlot, StacksLie, RepresentsObjects, Represents, info_of}
use Rattle.b67_stack.proofs.Bases.{base-apart}
use Rattle.b67_stack.proofs.Heights.{words-length}
use Rattle.b67_stack.proofs.Lies.{Lie-same}
use Rattle.b67_stack.proofs.Slots.{by_slot, Content-areas}
use Rattle.b67_task.specs.Slots.{SlotFilled}

slot_room : (p : MachineView) (k : ℕ) (s : Slot) → SlotFits p k s → 0 < p.size → stack_words (stack_of s) < p.size
slot_room p k s f some = grind arith

fits_same : (p : MachineView) (k : ℕ) (slot : Slot) (j : ℕ) (s : Slot) → SlotFits p j s → SlotFits (with_slot p k slot) j s
fits_same p k slot j s f = grind arith

stands_other : (core new : List Tagged) (r : Regs) (p : MachineView) (k : ℕ) (slot : Slot) (j : ℕ) (s : Slot) → slice_get new (slot_base p j) ≡ slice_get core (slot_base p j) → RepresentsSlot core r p j s → RepresentsSlot new r (with_slot p k slot) j s
stands_other core new r p k slot j s e t = grind arith

-- heads and tails of areas, and the first words of holes, lie above the slots
controls_above : (at : ℕ) (ss : List Span) (i : ℕ) → Controls at ss i → at ≤ i
controls_above at [] i c = absurd c
controls_above at (Area a ∷ ss) i c = ⊎_elim (λ e. omega arith) (λ d. ⊎_elim (λ e. omega arith) (λ r. omega (arith, controls_above (at + (a.words + 2)) ss i r)) d) c
controls_above at (Hole n ∷ ss) i c = ⊎_elim (λ e. omega arith) (λ r. omega (arith, controls_above (at + n) ss i r)) c

module _ (x : Storage) (core new : List Tagged) (r : Regs) (p : MachineView) (k : ℕ) (stack : List Activation) (c : SlotFilled x core new r p k stack) (s : Represents x core r p) (rests : NoOriginalAboveTop p) where
  abbrev p' : MachineView
  p' = with_slot p k (Waiting stack)

  laid : IsLaidOut x.low p
  laid = s.slots.laid

  room : 0 < p.size
  room = omega (arith, c.fits.fits)

  end : slot_base p k + p.size ≤ x.low
  end = omega (arith, base-apart p k p.peak c.used, laid.low)

  vector_low : 32 + k < 152
  vector_low = omega (arith, c.used, c.few)

  elsewhere : (j : ℕ) → j < p.peak → j ≢ k → (i : ℕ) → slot_base p j ≤ i → i < slot_base p j + p.size → slice_get new i ≡ slice_get core i
  elsewhere j hj n i down up = ⊎_elim
      (λ (a : j < k). c.outside i (λ e. omega (arith, e, down, laid.first, vector_low)) (inl (omega (arith, base-apart p j k a))))
      (λ (a : k ≤ j). c.outside i (λ e. omega (arith, e, down, laid.first, vector_low)) (inr (omega (arith, base-apart p k j (omega (arith, a, n))))))
      (cases_lt j k)

  -- no original stands in a slot without a task
  no_home : (t : PagedObject) → Has p.objects t → slot_base p k ≤ t.home → t.home < slot_base p k + p.size → ⊥
  no_home t i up down = grind arith

  laid' : IsLaidOut x.low p'
  laid' = record {
    low = laid.low;
    first = laid.first;
    room = laid.room;
    slots = by_slot p k (Waiting stack) (λ j z. SlotFits p' j z) (c.fits, c.copies) (λ j hj n. fits_same p k (Waiting stack) j (p.slots j) (laid.slots j hj));
    homes = laid.homes;
    codes = laid.codes;
    differ = laid.differ;
    not_base = laid.not_base;
    lengths = laid.lengths;
  }

  stacks : StacksLie x.held new p'
  stacks = grind (arith, Lie-same, elsewhere, words-length, slot_room)

  objects : RepresentsObjects x new p.objects
  objects t i =
      let was = s.objects t i in
      let home : slice_get new t.home ≡ slice_get core t.home = ⊎_elim
      (λ (a : t.home < slot_base p k). c.outside t.home (λ e. omega (arith, e, (laid.homes t i).0, vector_low)) (inl a))
      (λ (a : slot_base p k ≤ t.home). ⊎_elim
      (λ (b : t.home < slot_base p k + p.size). absurd (no_home t i a b))
      (λ (b : slot_base p k + p.size ≤ t.home). c.outside t.home (λ e. omega (arith, e, (laid.homes t i).0, vector_low)) (inr b))
      (cases_lt t.home (slot_base p k + p.size)))
      (cases_lt t.home (slot_base p k)) in
      record {
        home = home ∙ was.home;
        content = Content-areas x core new t (x.held t.home).area (x.held t.home).chain
            (λ b q. let o = s.owned.of_held t.home b q in omega (arith, area_at-low x.low x.spans b (info_of x o.0) o.3))
            (λ q up. c.outside q (λ e. omega (arith, e, up, end, laid.first, vector_low)) (inr (omega (arith, end, up)))) was.content;
      }

  pub Represents-filled : Represents x new r (with_slot p k (Waiting stack))
  Represents-filled = record {
    slots = record {
      laid = laid';
      regs = record { stacks = s.slots.regs.stacks; size = s.slots.regs.size; peak = s.slots.regs.peak };
      slots = by_slot p k (Waiting stack) (λ j z. RepresentsSlot new r p' j z) (c.away, c.top)
          (λ j hj n. stands_other core new r p k (Waiting stack) j (p.slots j) (elsewhere j hj n (slot_base p j) (omega arith) (omega (arith, room))) (s.slots.slots j hj));
    };
    stacks = stacks;
    objects = objects;
    owned = record { of_area = s.owned.of_area; of_held = s.owned.of_held; of_chain = s.owned.of_chain; no_zero = s.owned.no_zero; one_chain = s.owned.one_chain };
    directory = IsDirectory-same core new x.low x.spans c.size
        (λ i h. c.outside i (λ e. omega (arith, e, h.0, vector_low)) (inl (omega (arith, h.1, laid.first))))
        (λ i h. c.outside i (λ e. omega (arith, e, controls_above x.low x.spans i h, end, laid.first, vector_low)) (inr (omega (arith, controls_above x.low x.spans i h, end)))) s.directory;
    inside = rw c.size s.inside;
  }

  pub NoOriginalAboveTop-filled : NoOriginalAboveTop (with_slot p k (Waiting stack))
  NoOriginalAboveTop-filled t i j hj = grind arith
