-- A slot whose task is gone, and the arrays whose originals lay in it.
use Rattle.std.specs.Prelude.{◌≡◌, ◌≢◌, ℕ, ◌+◌, ◌<◌, ◌≤◌, ◌⊎◌, ◌==◌, List, ◌++◌, length, Some, slice_get, slice_set, if◌then◌else◌}
use Rattle.b67_word.specs.Tagged.{Tagged, word}
use Rattle.b67_ctl.specs.declared.registers.TheConstants.{NO_SLOT}
use Rattle.b67_ctl.specs.declared.map.TheConstants.{SLOTS, STACK_VECTOR}
use Rattle.b67_area.specs.declared.Kind.TheVariants.{Code}
use Rattle.b67_ctl.specs.declared.registers.Regs.{Regs}
use Rattle.b67_lemmas.specs.Lists.{Has}
use Rattle.b67_stack.specs.declared.Cpu.{Cpu}
use Rattle.b67_stack.specs.Common.{IsOriginal, stack_words, PagedObject, MachineView, Free, SlotFits, stack_of, slot_base, with_slot}
use Rattle.b67_task.specs.Released.{HasHome, of_objects}

-- no registers are in use if they were those of slot k
abbrev pub put_out : Regs → ℕ → Regs
put_out r k = if r.slot == k then record r { slot = NO_SLOT } else r

-- a slot's base word and its word in the stack vector are zeros
abbrev pub vacated : Cpu → ℕ → ℕ → Cpu
vacated cpu k base = record cpu {
  core = slice_set (slice_set cpu.core base (word 0 0)) (STACK_VECTOR + k) (word 0 0);
  regs = put_out cpu.regs k;
}

-- that is all that has changed
pub record SlotVacated (core new : List Tagged) (r r' : Regs) (p : MachineView) (k : ℕ) : Type 0 where
  pub used : k < p.peak
  pub few : p.peak ≤ SLOTS
  pub room : 0 < p.size
  pub size : length new ≡ length core
  pub zero : slice_get new (slot_base p k) ≡ Some (word 0 0)
  pub outside : (i : ℕ) → i ≢ slot_base p k → i ≢ STACK_VECTOR + k → slice_get new i ≡ slice_get core i
  pub regs : ((r.slot ≢ k) × (r' ≡ r)) ⊎ ((r.slot ≡ k) × (r' ≡ record r { slot = NO_SLOT }))

-- the view without the task of slot k, with these objects
abbrev pub died : MachineView → ℕ → List PagedObject → MachineView
died p k rest = of_objects (with_slot p k Free) rest

-- The task of slot k may die: of the objects, some are arrays whose originals lie in its stack, each original there is that of
-- one of them, and no word of another stack is a copy of one.
pub record MayDie (p : MachineView) (core : List Tagged) (k : ℕ) (gone rest : List PagedObject) : Type 0 where
  pub used : k < p.peak
  pub few : p.peak ≤ SLOTS
  pub room : stack_words (stack_of (p.slots k)) < p.size
  pub there : (t : PagedObject) → Has p.objects t → Has (gone ++ rest) t
  pub back : (t : PagedObject) → Has (gone ++ rest) t → Has p.objects t
  pub arrays : (t : PagedObject) → Has gone t → t.kind ≢ Code
  pub among : (t : PagedObject) → Has gone t → (slot_base p k < t.home) × (t.home ≤ slot_base p k + stack_words (stack_of (p.slots k)))
  pub each : (i : ℕ) (w : Tagged) → slot_base p k < i → i ≤ slot_base p k + stack_words (stack_of (p.slots k)) → slice_get core i ≡ Some w → IsOriginal w → HasHome gone i
  pub alone : (t u : PagedObject) → Has gone t → Has rest u → u.home ≢ t.home
  pub fits : (q : ℕ) → q < p.peak → q ≢ k → SlotFits (of_objects p rest) q (p.slots q)
