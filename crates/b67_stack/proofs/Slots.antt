-- A step that changes the running stack alone needs a proof for that stack alone.
use Rattle.std.proofs.Common.{◌≡◌, ◌≢◌, ℕ, suc, ◌+◌, ◌<◌, ◌≤◌, List, length, Option, Some, None, refl, sym, ◌∙◌, arith, inl, inr, ◌⊎◌, ⊎_elim, subst}
use Rattle.std.specs.List.{slice_get}
use Rattle.std.proofs.lemmas.Bool.{cases_eq, cases_lt, eq-eqb, ne_eqb}
use Rattle.b67_word.specs.Tagged.{Tagged}
use Rattle.b67_area.proofs.Climbs.{area_at-low}
use Rattle.b67_area.proofs.Separation.{IsDirectory-same, controls_above}
use Rattle.b67_lemmas.specs.Lists.{Has}
use Rattle.b67_ctl.specs.declared.registers.Regs.{Regs}
use Rattle.b67_stack.specs.Common.{Fits, LieDownward, Activation, IsStack, stack_words, words, PagedObject, MachineView, Slot, Free, Running, Waiting, stack_of, slot_base, RunsOn, SlotFits, CopiesName, IsLaidOut, with_slot, object_words, Storage, RepresentsSlot, RepresentsRunning, StacksLie, RepresentsObjects, Content, RepresentsRegs, Represents, info_of, with_stack}
use Rattle.b67_stack.proofs.Bases.{base-apart}
use Rattle.b67_stack.proofs.Lies.{Lie-same, Upward-same}
use Rattle.b67_stack.proofs.Heights.{words-length}

pub slot-same : (p : MachineView) (k : ℕ) (slot : Slot) → (with_slot p k slot).slots k ≡ slot
slot-same p k slot = rw (eq-eqb k k refl) refl

pub slot-other : (p : MachineView) (k : ℕ) (slot : Slot) (j : ℕ) → j ≢ k → (with_slot p k slot).slots j ≡ p.slots j
slot-other p k slot j n = rw (ne_eqb j k n) refl

-- a word of the running stack is that of slot k
pub by_slot : (p : MachineView) (k : ℕ) (slot : Slot) (P : ℕ → Slot → Type 0) → P k slot → ((j : ℕ) → j < p.peak → j ≢ k → P j (p.slots j)) → (j : ℕ) → j < p.peak → P j ((with_slot p k slot).slots j)
by_slot p k slot P here others j hj = grind arith

slot_other : (old new : List Tagged) (r r' : Regs) (p : MachineView) (k j : ℕ) (slot s : Slot) → j ≢ k → r.slot ≡ k → r'.slot ≡ k → slice_get new (slot_base p j) ≡ slice_get old (slot_base p j) → RepresentsSlot old r p j s → RepresentsSlot new r' (with_slot p k slot) j s
slot_other old new r r' p k j slot s n e e' same t = grind arith

-- a slot's words fit in it
pub slot_room : (p : MachineView) (k : ℕ) (s : Slot) → SlotFits p k s → 0 < p.size → stack_words (stack_of s) < p.size
slot_room p k s f some = grind arith

-- content read in areas alone
pub Content-areas : (x : Storage) (old new : List Tagged) (t : PagedObject) (a : Option ℕ) (f : ℕ)
    → ((b : ℕ) → a ≡ Some b → x.low ≤ b) → ((q : ℕ) → x.low ≤ q → slice_get new q ≡ slice_get old q) → Content x old t a f → Content x new t a f
Content-areas x old new t a f up same c = grind (arith, Upward-same)

pub running_slot : (x : Storage) (core : List Tagged) (r : Regs) (p : MachineView) (k : ℕ) (stack : List Activation) → Represents x core r p → RunsOn p k stack → RepresentsRunning r p k stack
running_slot x core r p k stack s u = let P : Slot → Type 0 = λ y. RepresentsSlot core r p k y in subst P u.is (s.slots.slots k u.used)

pub running_fits : (x : Storage) (core : List Tagged) (r : Regs) (p : MachineView) (k : ℕ) (stack : List Activation) → Represents x core r p → RunsOn p k stack → IsStack p.size stack × CopiesName p.objects (words k stack)
running_fits x core r p k stack s u = let P : Slot → Type 0 = λ y. SlotFits p k y in subst P u.is (s.slots.laid.slots k u.used)

pub running_lies : (x : Storage) (core : List Tagged) (r : Regs) (p : MachineView) (k : ℕ) (stack : List Activation) → Represents x core r p → RunsOn p k stack → LieDownward (Fits x.held) core (suc (slot_base p k)) (words k stack)
running_lies x core r p k stack s u = let P : Slot → Type 0 = λ y. LieDownward (Fits x.held) core (suc (slot_base p k)) (words k (stack_of y)) in subst P u.is (s.stacks k u.used)

-- what a changed running stack must show
pub record Changed (x : Storage) (core new : List Tagged) (r' : Regs) (p : MachineView) (k : ℕ) (stack : List Activation) : Type 0 where
  pub size : length new ≡ length core
  pub outside : (i : ℕ) → (i < slot_base p k) ⊎ (slot_base p k + p.size ≤ i) → slice_get new i ≡ slice_get core i
  pub regs : RepresentsRegs r' p
  pub runs : RepresentsRunning r' p k stack
  pub fits : IsStack p.size stack
  pub copies : CopiesName p.objects (words k stack)
  pub lies : LieDownward (Fits x.held) new (suc (slot_base p k)) (words k stack)
  pub homes : (t : PagedObject) → Has p.objects t → slot_base p k ≤ t.home → t.home < slot_base p k + p.size → slice_get new t.home ≡ slice_get core t.home

-- the running stack is another, and all words outside its slot are as they were. Nothing is to be shown of other
-- stacks, of areas, of sectors and of who owns what; of originals only that those in this slot still stand
pub Represents-slot : (x : Storage) (core new : List Tagged) (r r' : Regs) (p : MachineView) (k : ℕ) (before stack : List Activation)
    → RunsOn p k before → Changed x core new r' p k stack → Represents x core r p → Represents x new r' (with_stack p k stack)
Represents-slot x core new r r' p k before stack u c s = record {
  slots = record {
    laid = laid';
    regs = record { stacks = c.regs.stacks; size = c.regs.size; peak = c.regs.peak };
    slots = by_slot p k (Running stack) (λ j y. RepresentsSlot new r' p' j y) runs (λ j hj n. slot_other core new r r' p k j (Running stack) (p.slots j) n is_k c.runs.slot (elsewhere j hj n (slot_base p j) (omega arith) (omega (arith, room))) (s.slots.slots j hj));
  };
  stacks = stacks;
  objects = objects;
  owned = record { of_area = s.owned.of_area; of_held = s.owned.of_held; of_chain = s.owned.of_chain; no_zero = s.owned.no_zero; one_chain = s.owned.one_chain };
  directory = IsDirectory-same core new x.low x.spans c.size
      (λ i h. c.outside i (inl (omega (arith, h.1, laid.first))))
      (λ i h. c.outside i (inr (omega (arith, controls_above x.low x.spans i h, base-apart p k p.peak u.used, laid.low)))) s.directory;
  inside = rw c.size s.inside;
} where
  p' : MachineView
  p' = with_stack p k stack

  laid : IsLaidOut x.low p
  laid = s.slots.laid

  is_k : r.slot ≡ k
  is_k = (running_slot x core r p k before s u).slot

  room : 0 < p.size
  room = omega (arith, (running_fits x core r p k before s u).0.fits)

  elsewhere : (j : ℕ) → j < p.peak → j ≢ k → (i : ℕ) → slot_base p j ≤ i → i < slot_base p j + p.size → slice_get new i ≡ slice_get core i
  elsewhere j hj n i down up = ⊎_elim
      (λ (a : j < k). c.outside i (inl (omega (arith, base-apart p j k a))))
      (λ (a : k ≤ j). c.outside i (inr (omega (arith, base-apart p k j (omega arith)))))
      (cases_lt j k)

  runs : RepresentsRunning r' p' k stack
  runs = record { slot = c.runs.slot; first = c.runs.first; last = c.runs.last; top = c.runs.top; mark = c.runs.mark; level = c.runs.level }

  fits_same : (j : ℕ) (y : Slot) → SlotFits p j y → SlotFits p' j y
  fits_same j Free f = f
  fits_same j (Running q) f = f
  fits_same j (Waiting q) f = f

  laid' : IsLaidOut x.low p'
  laid' = record {
    low = laid.low;
    first = laid.first;
    room = laid.room;
    homes = laid.homes;
    codes = laid.codes;
    differ = laid.differ;
    not_base = laid.not_base;
    lengths = laid.lengths;
    slots = by_slot p k (Running stack) (λ j y. SlotFits p' j y) (c.fits, c.copies) (λ j hj n. fits_same j (p.slots j) (laid.slots j hj));
  }

  stacks : StacksLie x.held new p'
  stacks = by_slot p k (Running stack) (λ j y. LieDownward (Fits x.held) new (suc (slot_base p j)) (words j (stack_of y))) c.lies
      (λ j hj n. Lie-same (Fits x.held) core new (suc (slot_base p j)) (words j (stack_of (p.slots j)))
      (λ i down up. elsewhere j hj n i (omega arith) (omega (arith, words-length j (stack_of (p.slots j)), slot_room p j (p.slots j) (laid.slots j hj) room))) (s.stacks j hj))

  objects : RepresentsObjects x new p.objects
  objects t int =
      let was = s.objects t int in
      let home : slice_get new t.home ≡ slice_get core t.home = ⊎_elim
      (λ (a : t.home < slot_base p k). c.outside t.home (inl a))
      (λ (a : slot_base p k ≤ t.home). ⊎_elim (λ (b : t.home < slot_base p k + p.size). c.homes t int a b) (λ (b : slot_base p k + p.size ≤ t.home). c.outside t.home (inr b)) (cases_lt t.home (slot_base p k + p.size)))
      (cases_lt t.home (slot_base p k)) in
      record {
        home = home ∙ was.home;
        content = Content-areas x core new t (x.held t.home).area (x.held t.home).chain
            (λ b q. let o = s.owned.of_held t.home b q in omega (arith, area_at-low x.low x.spans b (info_of x o.0) o.3))
            (λ q up. c.outside q (inr (omega (arith, base-apart p k p.peak u.used, laid.low)))) was.content;
      }
