-- A task's registers come into use, or are put into its top of stack word.
use Rattle.std.proofs.Common.{◌≡◌, ◌≢◌, ℕ, suc, ◌+◌, ◌<◌, ◌≤◌, List, [], ◌∷◌, length, Some, refl, sym, ◌∙◌, ap, arith, ⊎_elim, subst}
use Rattle.std.specs.List.{slice_get}
use Rattle.std.proofs.lemmas.Bool.{cases_eq, cases_lt}
use Rattle.b67_word.specs.Tagged.{Tagged}
use Rattle.b67_area.proofs.Climbs.{area_at-low}
use Rattle.b67_area.proofs.Separation.{IsDirectory-same, controls_above}
use Rattle.b67_ctl.specs.declared.registers.Regs.{Regs}
use Rattle.b67_model.specs.Common.{Task, SessionJob, Session}
use Rattle.b67_stack.specs.Common.{Fits, LieDownward, Activation, stack_words, words, MachineView, Slot, stack_of, slot_base, SlotFits, IsLaidOut, with_slot, NoOriginalAboveTop, Storage, RepresentsSlot, StacksLie, RepresentsObjects, RepresentsRegs, Represents, info_of}
use Rattle.b67_stack.proofs.Bases.{base-apart}
use Rattle.b67_stack.proofs.Heights.{words-length}
use Rattle.b67_stack.proofs.Lies.{Lie-same}
use Rattle.b67_stack.proofs.Slots.{by_slot, Content-areas, slot_room}
use Rattle.b67_layout.specs.Common.{Placement, slot_of, machine_view, PlanFits, vector_word, IsRunning, RepresentsTask, SessionHolds}
use Rattle.b67_layout.proofs.Rows.{slot_below}
use Rattle.b67_layout.proofs.Sessions.{dictionary_below}
use Rattle.b67_task.specs.Turns.{with_running}

-- slot k is another with the same stack, and no word but its base word has changed
pub record Turned (x : Storage) (core new : List Tagged) (r r' : Regs) (p : MachineView) (k : ℕ) (slot : Slot) : Type 0 where
  pub used : k < p.peak
  pub size : length new ≡ length core
  pub outside : (i : ℕ) → i ≢ slot_base p k → slice_get new i ≡ slice_get core i
  pub regs : RepresentsRegs r' p
  pub elsewhere : (j : ℕ) → j < p.peak → j ≢ k → (r.slot ≢ j) × (r'.slot ≢ j)
  pub fits : SlotFits p k slot
  pub stack : stack_of slot ≡ stack_of (p.slots k)
  pub stands : RepresentsSlot new r' p k slot

turned_other : (core new : List Tagged) (r r' : Regs) (p p' : MachineView) (j : ℕ) (s : Slot) → p'.stacks ≡ p.stacks → p'.size ≡ p.size → r.slot ≢ j → r'.slot ≢ j → slice_get new (slot_base p j) ≡ slice_get core (slot_base p j) → RepresentsSlot core r p j s → RepresentsSlot new r' p' j s
turned_other core new r r' p h j s es ez n n' same t = grind arith

turned_here : (new : List Tagged) (r' : Regs) (p : MachineView) (k : ℕ) (slot s : Slot) → RepresentsSlot new r' p k s → RepresentsSlot new r' (with_slot p k slot) k s
turned_here new r' p k slot s t = grind arith

fits_same : (p : MachineView) (k : ℕ) (slot : Slot) (j : ℕ) (y : Slot) → SlotFits p j y → SlotFits (with_slot p k slot) j y
fits_same p k slot j y f = grind arith

module _ (x : Storage) (core new : List Tagged) (r r' : Regs) (p : MachineView) (k : ℕ) (slot : Slot) (c : Turned x core new r r' p k slot) (room : 0 < p.size) (s : Represents x core r p) where
  abbrev p' : MachineView
  p' = with_slot p k slot

  laid : IsLaidOut x.low p
  laid = s.slots.laid

  laid' : IsLaidOut x.low p'
  laid' = record {
    low = laid.low;
    first = laid.first;
    room = laid.room;
    homes = laid.homes;
    codes = laid.codes;
    differ = laid.differ;
    not_base = laid.not_base;
    lengths = laid.lengths;
    slots = by_slot p k slot (λ j y. SlotFits p' j y) (fits_same p k slot k slot c.fits) (λ j hj n. fits_same p k slot j (p.slots j) (laid.slots j hj));
  }

  -- a stack's words are not the base word of slot k
  not_word : (j : ℕ) → j < p.peak → (i : ℕ) → suc (slot_base p j) ≤ i → i < suc (slot_base p j) + length (words j (stack_of (p.slots j))) → i ≢ slot_base p k
  not_word j hj i down up e =
      let long = words-length j (stack_of (p.slots j)) in
      let fit = slot_room p j (p.slots j) (laid.slots j hj) room in
      ⊎_elim
      (λ (a : j < k). omega (arith, base-apart p j k a))
      (λ (a : k ≤ j). ⊎_elim (λ (b : k ≡ j). omega (arith, ap (slot_base p) b)) (λ (b : k ≡ j → ⊥). omega (arith, base-apart p k j (omega arith))) (cases_eq k j))
      (cases_lt j k)

  lies : (j : ℕ) → j < p.peak → LieDownward (Fits x.held) new (suc (slot_base p j)) (words j (stack_of (p.slots j)))
  lies j hj = Lie-same (Fits x.held) core new (suc (slot_base p j)) (words j (stack_of (p.slots j))) (λ i down up. c.outside i (not_word j hj i down up)) (s.stacks j hj)

  stacks : StacksLie x.held new p'
  stacks = by_slot p k slot (λ j y. LieDownward (Fits x.held) new (suc (slot_base p j)) (words j (stack_of y)))
      (subst (λ (st : List Activation). LieDownward (Fits x.held) new (suc (slot_base p k)) (words k st)) (sym c.stack) (lies k c.used))
      (λ j hj n. lies j hj)

  low_end : slot_base p k < x.low
  low_end = omega (arith, base-apart p k p.peak c.used, laid.low)

  objects : RepresentsObjects x new p.objects
  objects t int =
      let was = s.objects t int in
      record {
        home = c.outside t.home (laid.not_base t int k c.used) ∙ was.home;
        content = Content-areas x core new t (x.held t.home).area (x.held t.home).chain
            (λ b q. let o = s.owned.of_held t.home b q in omega (arith, area_at-low x.low x.spans b (info_of x o.0) o.3))
            (λ q up. c.outside q (λ e. omega (arith, low_end))) was.content;
      }

  pub Represents-turned : Represents x new r' (with_slot p k slot)
  Represents-turned = record {
    slots = record {
      laid = laid';
      regs = record { stacks = c.regs.stacks; size = c.regs.size; peak = c.regs.peak };
      slots = by_slot p k slot (λ j y. RepresentsSlot new r' p' j y) (turned_here new r' p k slot slot c.stands)
          (λ j hj n. let (a, b) = c.elsewhere j hj n in turned_other core new r r' p p' j (p.slots j) refl refl a b
          (c.outside (slot_base p j) (λ e. ⊎_elim (λ (z : j < k). omega (arith, base-apart p j k z)) (λ (z : k ≤ j). omega (arith, base-apart p k j (omega (arith, n)))) (cases_lt j k))) (s.slots.slots j hj));
    };
    stacks = stacks;
    objects = objects;
    owned = record { of_area = s.owned.of_area; of_held = s.owned.of_held; of_chain = s.owned.of_chain; no_zero = s.owned.no_zero; one_chain = s.owned.one_chain };
    directory = IsDirectory-same core new x.low x.spans c.size
        (λ i h. c.outside i (λ e. omega (arith, h.1, laid.first)))
        (λ i h. c.outside i (λ e. omega (arith, controls_above x.low x.spans i h, low_end))) s.directory;
    inside = rw c.size s.inside;
  }

  pub Settled-turned : NoOriginalAboveTop p → NoOriginalAboveTop (with_slot p k slot)
  Settled-turned h t int j hj = by_slot p k slot (λ i y. slot_base p i ≤ t.home → t.home < slot_base p i + p.size → t.home ≤ slot_base p i + stack_words (stack_of y))
      (subst (λ (st : List Activation). slot_base p k ≤ t.home → t.home < slot_base p k + p.size → t.home ≤ slot_base p k + stack_words st) (sym c.stack) (h t int k c.used))
      (λ i hi n. h t int i hi) j hj

vector_word-replan : (plan : Placement) (k j : ℕ) (parents : List ℕ) → vector_word (with_running plan k) j parents ≡ vector_word plan j parents
vector_word-replan plan k j parents = grind arith

module _ (x : Storage) (core new : List Tagged) (r r' : Regs) (marks : List ℕ) (plan : Placement) (s : Session) (k : ℕ) (h : SessionHolds x core r marks plan s) where
  plan_fits : PlanFits (with_running plan k) s
  plan_fits = grind arith

  pub SessionHolds-turned : ((i : ℕ) → i < plan.stacks → slice_get new i ≡ slice_get core i)
      → Represents x new r' (machine_view (with_running plan k) s.jobs) → NoOriginalAboveTop (machine_view (with_running plan k) s.jobs)
      → (k ≢ 255 → (m : SessionJob) × (t : Task) × IsRunning (with_running plan k) s.jobs m t)
      → ((m : SessionJob) (t : Task) → IsRunning (with_running plan k) s.jobs m t → RepresentsTask r' (with_running plan k) m t)
      → (k ≡ 255 → r'.slot ≡ 255)
      → SessionHolds x new r' marks (with_running plan k) s
  SessionHolds-turned same stands settled live running none = record {
    fits = plan_fits;
    memory = stands;
    settled = settled;
    dictionaries = λ m inm.
        let d = dictionary_below plan 160 s.jobs m h.fits.dictionaries inm in
        let o = h.dictionaries m inm in
        record { mark = same (plan.dictionary m.constants.number) (omega arith) ∙ o.mark; entries = same (plan.dictionary m.constants.number + 1) (omega arith) ∙ o.entries };
    mcp = record { mark = same 0 (omega arith) ∙ h.mcp.mark; intrinsics = λ i low up. same i (omega arith) ∙ h.mcp.intrinsics i low up };
    vector = record {
      live = λ m t inm int. same (32 + slot_of plan m.constants.number t.number) (omega (arith, slot_below plan s.jobs m t h.fits.rows inm int, h.fits.few)) ∙ h.vector.live m t inm int ∙ ap Some (sym (vector_word-replan plan k m.constants.number t.parents));
      free = λ i small others. same (32 + i) (omega arith) ∙ h.vector.free i small others;
    };
    critical = record { live = h.critical.live; free = h.critical.free };
    live = live;
    running = running;
    none = none;
  } where
    low : 160 ≤ plan.stacks
    low = h.memory.slots.laid.first
