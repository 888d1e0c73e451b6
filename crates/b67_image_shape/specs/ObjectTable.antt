-- The table of marks: which object stands at an address, by the tables and the words of stacks.
use Rattle.std.specs.Prelude.{◌≡◌, ℕ, ◌+◌, ◌-◌, ◌/◌, ◌<◌, ◌==◌, Bool, ◌&&◌, not, nat_lt, nat_le, List, [], ◌∷◌, length, Option, Some, None, if◌then◌else◌, slice_index}
use Rattle.b67_word.specs.Tagged.{Tagged}
use Rattle.b67_stack.specs.Shapes.{Locations}
use Rattle.b67_layout.specs.Rows.{TaskRow, JobRow}
use Rattle.b67_layout_shown.specs.Reading.{word_seen_at, is_set}
use Rattle.b67_layout_shown.specs.Shown.{Sight, top_in}
use Rattle.b67_image_shape.specs.TableFacts.{row_in_slot, TableFacts}
use Rattle.b67_image_shape.specs.FixedWords.{FixedFacts}
use Rattle.b67_image_shape.specs.Held.{view_in}
use Rattle.b67_image_shape.specs.Items.{EachTask, StackFactsBy, base_at}
use Rattle.b67_image_shape.specs.ObjectMarks.{AreMarked}

-- entry i of a dictionary of so many segments
abbrev pub entry_mark : ℕ → ℕ → ℕ
entry_mark segments i = if nat_le i segments then 3 else 2

abbrev pub has_entry_at : JobRow → ℕ → Bool
has_entry_at row at = nat_lt (row.dictionary + 1) at && nat_le at (row.dictionary + 1 + (row.segments + row.rows))

abbrev pub mark_in_dictionary : List JobRow → ℕ → ℕ
mark_in_dictionary [] at = 0
mark_in_dictionary (row ∷ more) at = if has_entry_at row at then entry_mark row.segments (at - (row.dictionary + 1)) else mark_in_dictionary more at

-- an original in the stack of a task
abbrev pub is_original_word : Tagged → Bool
is_original_word w = (w.tag == 5) && not (is_set w 46)

abbrev pub is_stack_original : Sight → ℕ → TaskRow → Bool
is_stack_original k at r = nat_lt (base_at k r) at && (nat_le at (top_in k r).s && is_original_word (word_seen_at k.core at))

abbrev pub stack_mark : Sight → ℕ → Option TaskRow → ℕ
stack_mark k at None = 0
stack_mark k at (Some r) = if is_stack_original k at r then 1 else 0

abbrev pub mark_at : Sight → ℕ → ℕ
mark_at k at = if nat_lt at k.regs.stacks then mark_in_dictionary k.jobs at else stack_mark k at (row_in_slot k.tasks ((at - k.regs.stacks) / k.regs.stack_size))

-- over tables, fixed words and stacks as they should be, this table marks the objects that are shown, however they are held
abbrev pub ObjectsAreMarkedBy : Type 0
ObjectsAreMarkedBy =
    (held : Locations) (k : Sight) (low size : ℕ) (kinds : List ℕ) → TableFacts k → FixedFacts k low size → EachTask k (StackFactsBy held k) → length kinds ≡ length k.core
    → ((i : ℕ) → i < length k.core → slice_index kinds i ≡ mark_at k i) → AreMarked k.core kinds (view_in k).objects
