-- A machine of which one slot was vacated represents the view without its task, with the same objects.
use Rattle.std.proofs.Common.{◌≡◌, ◌≢◌, ℕ, suc, ◌+◌, ◌<◌, ◌≤◌, List, [], ◌∷◌, length, ◌∙◌, ap, arith, ⊎_elim}
use Rattle.std.specs.List.{slice_get}
use Rattle.std.proofs.lemmas.Bool.{cases_eq, cases_lt}
use Rattle.b67_word.specs.Tagged.{Tagged}
use Rattle.b67_area.specs.Spans.{Span, Area, Hole}
use Rattle.b67_area.proofs.Climbs.{area_at-low}
use Rattle.b67_area.proofs.Separation.{Controls, IsDirectory-same}
use Rattle.b67_ctl.specs.declared.registers.Regs.{Regs}
use Rattle.b67_stack.specs.Common.{Fits, LieDownward, stack_words, words, Slot, Free, stack_of, MachineView, slot_base, SlotFits, IsLaidOut, with_slot, Storage, RepresentsSlot, RepresentsRegs, StacksLie, RepresentsObjects, Represents, info_of}
use Rattle.b67_stack.proofs.Bases.{base-apart}
use Rattle.b67_stack.proofs.Heights.{words-length}
use Rattle.b67_stack.proofs.Lies.{Lie-same}
use Rattle.b67_stack.proofs.Slots.{by_slot, Content-areas}
use Rattle.b67_task.specs.Vacated.{SlotVacated}

pub slot_room : (p : MachineView) (k : ℕ) (s : Slot) → SlotFits p k s → 0 < p.size → stack_words (stack_of s) < p.size
slot_room p k s f some = grind arith

fits_same : (p : MachineView) (k j : ℕ) (s : Slot) → SlotFits p j s → SlotFits (with_slot p k Free) j s
fits_same p k j s f = grind arith

-- heads and tails of areas, and the first words of holes, lie above the slots
controls_above : (at : ℕ) (ss : List Span) (i : ℕ) → Controls at ss i → at ≤ i
controls_above at [] i c = absurd c
controls_above at (Area a ∷ ss) i c = ⊎_elim (λ e. omega arith) (λ d. ⊎_elim (λ e. omega arith) (λ r. omega (arith, controls_above (at + (a.words + 2)) ss i r)) d) c
controls_above at (Hole n ∷ ss) i c = ⊎_elim (λ e. omega arith) (λ r. omega (arith, controls_above (at + n) ss i r)) c

module _ (x : Storage) (core new : List Tagged) (r r' : Regs) (p : MachineView) (k : ℕ) (c : SlotVacated core new r r' p k) (s : Represents x core r p) where
  abbrev p' : MachineView
  p' = with_slot p k Free

  laid : IsLaidOut x.low p
  laid = s.slots.laid

  low_end : slot_base p k + p.size ≤ x.low
  low_end = omega (arith, base-apart p k p.peak c.used, laid.low)

  vector_low : 32 + k < 152
  vector_low = omega (arith, c.used, c.few)

  apart : (q : ℕ) → q ≢ k → slot_base p q ≢ slot_base p k
  apart q ne e = grind (arith, base-apart)

  elsewhere : (q : ℕ) → q ≢ k → slice_get new (slot_base p q) ≡ slice_get core (slot_base p q)
  elsewhere q ne = c.outside (slot_base p q) (apart q ne) (λ e. omega (arith, e, laid.first, vector_low))

  not_word : (j : ℕ) → j < p.peak → (i : ℕ) → suc (slot_base p j) ≤ i → i < suc (slot_base p j) + length (words j (stack_of (p.slots j))) → i ≢ slot_base p k
  not_word j hj i down up e =
      let long = words-length j (stack_of (p.slots j)) in
      let fit = slot_room p j (p.slots j) (laid.slots j hj) c.room in
      ⊎_elim
      (λ (a : j < k). omega (arith, base-apart p j k a, down, up, e, long, fit))
      (λ (a : k ≤ j). ⊎_elim (λ (b : k ≡ j). omega (arith, ap (slot_base p) b, down, e)) (λ (b : k ≡ j → ⊥). omega (arith, base-apart p k j (omega (arith, a, b)), down, e, c.room)) (cases_eq k j))
      (cases_lt j k)

  stacks : StacksLie x.held new p'
  stacks = by_slot p k Free (λ j z. LieDownward (Fits x.held) new (suc (slot_base p j)) (words j (stack_of z))) tt
      (λ j hj n. Lie-same (Fits x.held) core new (suc (slot_base p j)) (words j (stack_of (p.slots j))) (λ i down up. c.outside i (not_word j hj i down up) (λ e. omega (arith, e, down, laid.first, vector_low))) (s.stacks j hj))

  objects : RepresentsObjects x new p.objects
  objects t i =
      let was = s.objects t i in
      record {
        home = c.outside t.home (laid.not_base t i k c.used) (λ e. omega (arith, e, (laid.homes t i).0, vector_low)) ∙ was.home;
        content = Content-areas x core new t (x.held t.home).area (x.held t.home).chain
            (λ b q. let o = s.owned.of_held t.home b q in omega (arith, area_at-low x.low x.spans b (info_of x o.0) o.3))
            (λ q up. c.outside q (λ e. omega (arith, e, up, low_end, c.room)) (λ e. omega (arith, e, up, low_end, laid.first, vector_low))) was.content;
      }

  -- the registers afterwards
  regs_stand : RepresentsRegs r' p
  regs_stand = grind arith

  here : RepresentsSlot new r' p' k Free
  here = grind arith

  there : (j : ℕ) → j < p.peak → j ≢ k → RepresentsSlot new r' p' j (p.slots j)
  there j hj ne = grind (arith, elsewhere)

  pub Represents-vacated : Represents x new r' (with_slot p k Free)
  Represents-vacated = record {
    slots = record {
      laid = record {
        low = laid.low;
        first = laid.first;
        room = laid.room;
        slots = by_slot p k Free (λ j z. SlotFits p' j z) tt (λ j hj n. fits_same p k j (p.slots j) (laid.slots j hj));
        homes = laid.homes;
        codes = laid.codes;
        differ = laid.differ;
        not_base = laid.not_base;
        lengths = laid.lengths;
      };
      regs = record { stacks = regs_stand.stacks; size = regs_stand.size; peak = regs_stand.peak };
      slots = by_slot p k Free (λ j z. RepresentsSlot new r' p' j z) here there;
    };
    stacks = stacks;
    objects = objects;
    owned = record { of_area = s.owned.of_area; of_held = s.owned.of_held; of_chain = s.owned.of_chain; no_zero = s.owned.no_zero; one_chain = s.owned.one_chain };
    directory = IsDirectory-same core new x.low x.spans c.size
        (λ i h. c.outside i (λ e. omega (arith, e, h.1, laid.first)) (λ e. omega (arith, e, h.0, vector_low)))
        (λ i h. c.outside i (λ e. omega (arith, e, controls_above x.low x.spans i h, low_end, c.room)) (λ e. omega (arith, e, controls_above x.low x.spans i h, low_end, laid.first, vector_low))) s.directory;
    inside = rw c.size s.inside;
  }
