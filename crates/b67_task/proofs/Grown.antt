-- One slot more behind those used so far: the machine represents the same view with that slot.
use Rattle.std.proofs.Common.{◌≡◌, ◌≢◌, ℕ, ◌+◌, ◌<◌, ◌≤◌, List, length, Some, refl, sym, ◌∙◌, ap, arith}
use Rattle.std.specs.List.{slice_get}
use Rattle.b67_word.specs.Tagged.{Tagged, word}
use Rattle.b67_area.specs.declared.Info.{Info}
use Rattle.b67_area.specs.Spans.{Span, area_at}
use Rattle.b67_area.specs.Directory.{IsDirectory}
use Rattle.b67_ctl.specs.declared.registers.Regs.{Regs}
use Rattle.b67_stack.specs.Common.{stack_words, words, PagedObject, Slot, Free, stack_of, MachineView, slot_base, SlotFits, IsLaidOut, Storage, RepresentsSlot, StacksLie, RepresentsObjects, Represents, info_of}
use Rattle.b67_stack.proofs.Bases.{base-apart}
use Rattle.b67_stack.proofs.Heights.{words-length}
use Rattle.b67_stack.proofs.Lies.{Lie-same}
use Rattle.b67_stack.proofs.Reheld.{Content-stays}
use Rattle.b67_task.specs.Slots.{grown, HasRoom}

slot_room : (p : MachineView) (k : ℕ) (s : Slot) → SlotFits p k s → 0 < p.size → stack_words (stack_of s) < p.size
slot_room p k s f some = grind arith

stands_grown : (core new : List Tagged) (r : Regs) (p : MachineView) (k n : ℕ) (s : Slot) → slice_get new (slot_base p k) ≡ slice_get core (slot_base p k) → RepresentsSlot core r p k s → RepresentsSlot new (record r { peak = n }) (grown p) k s
stands_grown core new r p k n s e t = grind arith

module _ (x : Storage) (core new : List Tagged) (r : Regs) (p : MachineView) (spans : List Span) (s : Represents x core r p) (g : HasRoom x core r p)
    (size : length new ≡ length core) (directory : IsDirectory new (x.low + p.size) spans)
    (areas : (at : ℕ) → area_at (x.low + p.size) spans at ≡ area_at x.low x.spans at)
    (below : (i : ℕ) → i < x.low → i ≢ 152 → slice_get new i ≡ slice_get core i)
    (zero : slice_get new x.low ≡ Some (word 0 0))
    (bodies : (at : ℕ) (a : Info) → area_at x.low x.spans at ≡ Some a → (q : ℕ) → at ≤ q → q < at + a.words → slice_get new q ≡ slice_get core q) where
  abbrev y : Storage
  y = record x { low = x.low + p.size; spans = spans }

  laid : IsLaidOut x.low p
  laid = s.slots.laid

  low_base : x.low ≡ slot_base p p.peak
  low_base = laid.low

  -- a slot is one of those used before, or the new one
  by_slot : (P : ℕ → Slot → Type 0) → ((k : ℕ) → k < p.peak → P k (p.slots k)) → P p.peak Free → (k : ℕ) → k < p.peak + 1 → P k (p.slots k)
  by_slot P old here k hk = grind arith

  under : (k : ℕ) → k < p.peak → slot_base p k + p.size ≤ x.low
  under k hk = omega (arith, base-apart p k p.peak hk, low_base)

  above : (k : ℕ) → 160 ≤ slot_base p k
  above k = omega (arith, laid.first)

  laid' : IsLaidOut (x.low + p.size) (grown p)
  laid' = grind arith

  stacks : StacksLie x.held new (grown p)
  stacks = grind (arith, Lie-same, under, words-length)

  objects : RepresentsObjects y new p.objects
  objects t i =
      let was = s.objects t i in
      let h = laid.homes t i in
      record {
        home = below t.home h.1 (λ e. omega (arith, e, h.0)) ∙ was.home;
        content = Content-stays x y t (x.held t.home).chain (record { chain = refl; told = λ ns z. z }) core new (x.held t.home).area
            (λ b e q low high. let o = s.owned.of_held t.home b e in bodies b (info_of x o.0) o.3 q low (omega (arith, high, ap (λ (u : PagedObject). length u.numbers) (laid.differ t o.0 i o.1 (sym o.2))))) was.content;
      }

  pub Represents-grown : Represents (record x { low = x.low + p.size; spans = spans }) new (record r { peak = r.peak + 1 }) (grown p)
  Represents-grown = record {
    slots = record {
      laid = laid';
      regs = record { stacks = s.slots.regs.stacks; size = s.slots.regs.size; peak = ap (λ (n : ℕ). n + 1) s.slots.regs.peak };
      slots = by_slot (λ k z. RepresentsSlot new (record r { peak = r.peak + 1 }) (grown p) k z)
          (λ k hk. stands_grown core new r p k (r.peak + 1) (p.slots k) (below (slot_base p k) (omega (arith, under k hk, g.some)) (λ e. omega (arith, e, above k))) (s.slots.slots k hk))
          (g.away, ap (slice_get new) (sym low_base) ∙ zero);
    };
    stacks = stacks;
    objects = objects;
    owned = record {
      of_area = λ at a e. s.owned.of_area at a (sym (areas at) ∙ e);
      of_held = λ home at e. let (t, i, h, q) = s.owned.of_held home at e in (t, i, h, areas at ∙ q);
      of_chain = s.owned.of_chain;
      no_zero = s.owned.no_zero;
      one_chain = s.owned.one_chain;
    };
    directory = directory;
    inside = omega (arith, g.inside, size);
  }
