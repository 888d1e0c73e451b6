-- One slot more, and a stack in a slot in which no task lives.
use Rattle.std.specs.Prelude.{◌≡◌, ◌≢◌, ℕ, suc, ◌+◌, ◌-◌, ◌<◌, ◌≤◌, ◌⊎◌, List, length, Some, slice_get}
use Rattle.b67_word.specs.Tagged.{Tagged, word}
use Rattle.b67_ctl.specs.declared.map.TheConstants.{SLOTS, STACK_VECTOR}
use Rattle.b67_area.specs.declared.Info.{Info}
use Rattle.b67_area.specs.Spans.{area_at, cut}
use Rattle.b67_ctl.specs.declared.registers.Regs.{Regs}
use Rattle.b67_ctl.specs.Layout.{toscw_word}
use Rattle.b67_stack.specs.Common.{Fits, LieDownward, Activation, IsStack, words, toscw_of, MachineView, Free, CopiesName, slot_base, Storage}

-- the view with one slot more, which no task has yet
abbrev pub grown : MachineView → MachineView
grown p = record p { peak = p.peak + 1 }

-- the storage whose areas begin at a higher address
abbrev pub raised : Storage → ℕ → Storage
raised x low = record x { low = low; spans = cut (low - x.low) x.spans }

-- there is room for one slot more: core has its words, and no area has a word there
pub record HasRoom (x : Storage) (core : List Tagged) (r : Regs) (p : MachineView) : Type 0 where
  pub few : p.peak < SLOTS
  pub some : 0 < p.size
  pub inside : x.low + p.size ≤ length core
  pub clear : (at : ℕ) (a : Info) → area_at x.low x.spans at ≡ Some a → x.low + p.size < at
  pub free : p.slots p.peak ≡ Free
  pub away : r.slot ≢ p.peak

-- a stack stands in a slot in which no task lived, and no word outside the slot has changed but the slot's in the stack
-- vector
pub record SlotFilled (x : Storage) (core new : List Tagged) (r : Regs) (p : MachineView) (k : ℕ) (stack : List Activation) : Type 0 where
  pub used : k < p.peak
  pub free : p.slots k ≡ Free
  pub away : r.slot ≢ k
  pub size : length new ≡ length core
  pub few : p.peak ≤ SLOTS
  pub outside : (i : ℕ) → i ≢ STACK_VECTOR + k → (i < slot_base p k) ⊎ (slot_base p k + p.size ≤ i) → slice_get new i ≡ slice_get core i
  pub top : slice_get new (slot_base p k) ≡ Some (toscw_word (toscw_of stack))
  pub fits : IsStack p.size stack
  pub copies : CopiesName p.objects (words k stack)
  pub lies : LieDownward (Fits x.held) new (suc (slot_base p k)) (words k stack)

-- core has a stack of one activation record from a slot's base word up: the top of stack word, the mark, a return to nowhere, and
-- copies of words that stood elsewhere
pub record HasStackAt (core new : List Tagged) (base : ℕ) (head entered : Tagged) (from count : ℕ) : Type 0 where
  pub top : slice_get new base ≡ Some head
  pub mark : slice_get new (base + 1) ≡ Some entered
  pub back : slice_get new (base + 2) ≡ Some (word 3 0)
  pub cells : (i : ℕ) → i < count → slice_get new (base + 3 + i) ≡ slice_get core (from + i)
