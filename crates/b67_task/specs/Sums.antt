-- The sectors of what has its home in core: arrays by their originals, segments by their descriptors.
use Rattle.std.specs.Prelude.{ℕ, zero, suc, ◌+◌, Bool, false, ◌==◌, ◌&&◌, ◌||◌, List, Option, Some, None, if◌then◌else◌, slice_get}
use Rattle.b67_word.specs.Tagged.{Tagged, bits_at}
use Rattle.b67_ctl.specs.declared.registers.Regs.{Regs}
use Rattle.b67_model.specs.Sectors.{sectors_for}
use Rattle.b67_stack.specs.Common.{stack_words, MachineView, stack_of, slot_base}
use Rattle.b67_overlay.specs.Turns.{Lies}

-- an original or, among code, a segment's descriptor too. A copy has bit 46, and so has a dictionary's mark
abbrev pub is_home : Bool → Tagged → Bool
is_home code w = ((w.tag == 5) || (code && (w.tag == 3))) && (bits_at w 46 1 == 0)

abbrev pub sectors_of_word : Bool → Tagged → ℕ
sectors_of_word code w = if is_home code w then sectors_for (bits_at w 20 16) else 0

abbrev pub sectors_at : Bool → Option Tagged → ℕ
sectors_at code None = 0
sectors_at code (Some w) = sectors_of_word code w

-- those of so many words from an address on
abbrev pub core_sectors_from : Bool → List Tagged → ℕ → ℕ → ℕ
core_sectors_from code core from zero = 0
core_sectors_from code core from (suc n) = core_sectors_from code core from n + sectors_at code (slice_get core (from + n))

-- those of a slot's stack, and of the stacks of the slots below one
abbrev pub sectors_of_slot : List Tagged → MachineView → ℕ → ℕ
sectors_of_slot core p k = core_sectors_from false core (slot_base p k + 1) (stack_words (stack_of (p.slots k)))

abbrev pub sectors_of_slots : List Tagged → MachineView → ℕ → ℕ
sectors_of_slots core p zero = 0
sectors_of_slots core p (suc k) = sectors_of_slots core p k + sectors_of_slot core p k

-- the slots of some view lie in core, behind the dictionaries
abbrev pub LiesSome : List Tagged → Regs → Type 0
LiesSome core r = (low : ℕ) × (p : MachineView) × Lies core r low p
