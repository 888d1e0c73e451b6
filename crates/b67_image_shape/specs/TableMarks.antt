-- The table of marks by the tops of the tasks in their slots.
use Rattle.std.specs.Prelude.{◌≡◌, ℕ, ◌+◌, ◌<◌, List, length, Option, Some, None, slice_index}
use Rattle.b67_ctl.specs.declared.map.TheConstants.{SLOTS}
use Rattle.b67_lemmas.specs.Lists.{Has}
use Rattle.b67_layout.specs.Rows.{TaskRow}
use Rattle.b67_layout_shown.specs.Shown.{Sight, top_in}
use Rattle.b67_image_shape.specs.TableFacts.{row_in_slot}
use Rattle.b67_image_shape.specs.ObjectTable.{mark_at}

-- behind the topmost word of the task in a slot, 0 for none
abbrev pub end_by : Sight → Option TaskRow → ℕ
end_by k None = 0
end_by k (Some r) = (top_in k r).s + 1

abbrev pub AreEnds : Sight → List ℕ → Type 0
AreEnds k ends = (length ends ≡ SLOTS) × ((n : ℕ) → n < SLOTS → slice_index ends n ≡ end_by k (row_in_slot k.tasks n))

-- live tasks have slots of some words
abbrev pub HaveSlots : Sight → Type 0
HaveSlots k = (r : TaskRow) → Has k.tasks r → (r.slot < SLOTS) × (0 < k.regs.stack_size)

-- these are the marks of a machine's core
pub record IsTable (k : Sight) (kinds : List ℕ) : Type 0 where
  pub many : length kinds ≡ length k.core
  pub marks : (i : ℕ) → i < length k.core → slice_index kinds i ≡ mark_at k i
