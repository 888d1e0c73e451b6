-- What the table of marks needs and tells.
use Rattle.std.proofs.Common.{◌≡◌, ℕ, ◌+◌, ◌-◌, ◌/◌, ◌<◌, ◌≤◌, Bool, true, false, List, [], ◌∷◌, length, Option, Some, None, arith, ⊎_elim}
use Rattle.std.specs.Prelude.{nat_lt, nat_le, if◌then◌else◌}
use Rattle.std.specs.List.{slice_get}
use Rattle.std.proofs.lemmas.Bool.{cases_lt}
use Rattle.std.proofs.lemmas.List.{get_or_past}
use Rattle.b67_layout.specs.Rows.{TaskRow, JobRow}
use Rattle.b67_layout_shown.specs.Shown.{Sight}
use Rattle.b67_image_shape.specs.TableFacts.{row_in_slot}
use Rattle.b67_image_shape.specs.FixedWords.{SlotsHaveRoom}
use Rattle.b67_image_shape.specs.Held.{location_in}
use Rattle.b67_image_shape.specs.ObjectTable.{entry_mark, has_entry_at, mark_in_dictionary, is_stack_original, stack_mark, mark_at}
use Rattle.b67_image_shape.specs.TableLaws.{SlotsAreThere, TablesMark}
use Rattle.b67_image_shape.proofs.Rows.{of_row, row_fact}
use Rattle.b67_image_shape.proofs.ObjectPlaces.{objects_marked_by}

room_some : (size : ℕ) (jobs : List JobRow) (i : ℕ) (row : JobRow) → slice_get jobs i ≡ Some row → SlotsHaveRoom size jobs → 0 < size
room_some size jobs i row e h = grind arith

pub slots_there : SlotsAreThere
slots_there k low size facts fixed r h = grind (arith, of_row, row_fact, room_some)

if_small : (b : Bool) (m n : ℕ) → m ≤ 3 → n ≤ 3 → (if b then m else n) ≤ 3
if_small b m n a c = grind arith

dictionary_small : (jobs : List JobRow) (at : ℕ) → mark_in_dictionary jobs at ≤ 3
dictionary_small [] at = omega arith
dictionary_small (row ∷ more) at = grind (arith, if_small, dictionary_small more at)

stack_small : (k : Sight) (at : ℕ) (o : Option TaskRow) → stack_mark k at o ≤ 3
stack_small k at o = grind arith

mark_small : (k : Sight) (at : ℕ) → mark_at k at ≤ 3
mark_small k at = grind (arith, if_small, dictionary_small, stack_small)

pub tables_mark : TablesMark
tables_mark k low size kinds facts fixed near table = (
  objects_marked_by (location_in k.core) k low size kinds facts fixed near table.many table.marks,
  λ i. ⊎_elim
      (λ lt. let e = table.marks i lt in let s = mark_small k i in omega (arith, e, s))
      (λ past. let many = table.many in let e = get_or_past kinds i 0 (omega (arith, many, past)) in omega (arith, e))
      (cases_lt i (length k.core)),
)
