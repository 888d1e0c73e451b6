-- What the search for copies of an area does to core.
use Rattle.std.specs.Prelude.{◌≡◌, ℕ, true, false, ◌+◌, ◌<◌, ◌≤◌, ◌^◌, ◌⊎◌, List, length, Some, slice_get}
use Rattle.b67_word.specs.Tagged.{Tagged}
use Rattle.b67_ctl.specs.declared.map.TheConstants.{FIRST_DICTIONARY}
use Rattle.b67_ctl.specs.declared.descriptors.DataDesc.{DataDesc}
use Rattle.b67_ctl.specs.Descriptors.{data_word, IsDataDesc}
use Rattle.b67_ctl.specs.declared.registers.Regs.{Regs}
use Rattle.b67_lemmas.specs.Lists.{Has}
use Rattle.b67_stack.specs.Common.{Location, Shape, Fits, stack_words, words, PagedObject, MachineView, slot_base, stack_of, Storage, RepresentsSlots, LowWordsStayed, with_held}
use Rattle.b67_overlay.specs.Spans.{Families, span_of, InSpan}

abbrev pub IsCopyOfArea : ℕ → DataDesc → Type 0
IsCopyOfArea area d = (d.present ≡ true) × (d.copy ≡ true) × (d.address ≡ area)

-- a present copy of the area is absent and has the original's address; any other word stays
pub record MakesAbsent (area original : ℕ) (v w : Tagged) : Type 0 where
  pub copies : (d : DataDesc) → IsDataDesc d → v ≡ data_word d → IsCopyOfArea area d → w ≡ data_word (record d { present = false; address = original })
  pub others : ((d : DataDesc) → IsDataDesc d → v ≡ data_word d → IsCopyOfArea area d → ⊥) → w ≡ v

abbrev pub TurnsAt : ℕ → ℕ → List Tagged → List Tagged → ℕ → Type 0
TurnsAt area original old new i = (v : Tagged) × (w : Tagged) × (slice_get old i ≡ Some v) × (slice_get new i ≡ Some w) × MakesAbsent area original v w

-- the address of a word of slot k's stack, up to its top; the base word isn't one
abbrev pub InStack : MachineView → ℕ → ℕ → Type 0
InStack p k i = (slot_base p k < i) × (i ≤ slot_base p k + stack_words (stack_of (p.slots k)))

-- the copies in the stacks of the slots below n are turned, and nothing else is changed
pub record Searched (p : MachineView) (n area original : ℕ) (old new : List Tagged) : Type 0 where
  pub size : length new ≡ length old
  pub turned : (k : ℕ) → k < n → (i : ℕ) → InStack p k i → TurnsAt area original old new i
  pub others : (i : ℕ) → ((k : ℕ) → k < n → InStack p k i → ⊥) → slice_get new i ≡ slice_get old i

-- the copies in the spans of the slots below n are turned, and nothing else is changed
pub record SpansTurned (p : MachineView) (f : Families) (n area original : ℕ) (old new : List Tagged) : Type 0 where
  pub size : length new ≡ length old
  pub turned : (k : ℕ) → k < n → (i : ℕ) → InSpan (span_of f p original k) i → TurnsAt area original old new i
  pub others : (i : ℕ) → ((k : ℕ) → k < n → InSpan (span_of f p original k) i → ⊥) → slice_get new i ≡ slice_get old i

-- the slots of a view lie in core, below `low`
pub record Lies (core : List Tagged) (r : Regs) (low : ℕ) (p : MachineView) : Type 0 where
  pub slots : RepresentsSlots core r low p
  pub inside : low ≤ length core
  pub small : length core < 2 ^ 20
  pub base : (k : ℕ) → k < p.peak → slot_base p k < low

-- no word of a stack has the address of an object's area any more: each is what it was, where that object is held so. The
-- descriptors and all that isn't in a stack are as they were
pub record Hides (x : Storage) (core new : List Tagged) (p : MachineView) (t : PagedObject) (h : Location) : Type 0 where
  pub size : length new ≡ length core
  pub each : (k i : ℕ) (a : Shape) (v : Tagged) → k < p.peak → InStack p k i → Has (words k (stack_of (p.slots k))) a → slice_get core i ≡ Some v → Fits x.held a i v
      → (w : Tagged) × (slice_get new i ≡ Some w) × Fits (with_held x.held t.home h) a i w
  pub homes : (u : PagedObject) → Has p.objects u → slice_get new u.home ≡ slice_get core u.home
  pub bases : (k : ℕ) → k < p.peak → slice_get new (slot_base p k) ≡ slice_get core (slot_base p k)
  pub outside : (i : ℕ) → (x.low ≤ i) ⊎ (i < FIRST_DICTIONARY) → slice_get new i ≡ slice_get core i
  pub below : LowWordsStayed p core new
