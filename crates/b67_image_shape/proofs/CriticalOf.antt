-- The greatest critical displacements of a machine that represents what it shows.
use Rattle.std.proofs.Common.{◌≡◌, ℕ, List, Option, Some, None, refl, sym, ◌∙◌, ap}
use Rattle.std.specs.List.{slice_get}
use Rattle.b67_lemmas.proofs.Members.{keyed_has, has_map_back}
use Rattle.b67_model.specs.Common.{IsInOrderButPlaces}
use Rattle.b67_stack.specs.Represents.{Storage}
use Rattle.b67_layout.specs.Common.{Slotted, SessionHolds, TaskRow, TablesShow}
use Rattle.b67_layout_shown.specs.Laws.{StacksAreRead}
use Rattle.b67_layout_shown.specs.Shown.{Sight, task_in, member_in, shown, placed}
use Rattle.b67_image_shape.specs.TableFacts.{row_in_slot, TableFacts}
use Rattle.b67_image_shape.specs.FixedWords.{greatest, CriticalMarks}
use Rattle.b67_image_shape.proofs.Rows.{image, of_row, slot_is}
use Rattle.b67_image_shape.proofs.TablesOf.{tables_of}
use Rattle.b67_image_shape.proofs.FixedOf.{none_there}
use Rattle.b67_image_shape.proofs.StacksOf.{stacks_of, reach_of}
use Rattle.b67_image_shape.proofs.Critical.{critical_is, greatest_free}

pub critical_of : (read : StacksAreRead) (k : Sight) (x : Storage) (critical : List ℕ) (ordered : IsInOrderButPlaces (shown k)) (holds : SessionHolds x k.core k.regs critical (placed k) (shown k))
    (tables : TablesShow (placed k) (shown k) k.tasks k.jobs k.counts) → CriticalMarks critical k.tasks
critical_of read k x critical ordered holds tables n low = by (row_in_slot k.tasks n) refl where
  facts : TableFacts k
  facts = tables_of k x critical ordered holds tables

  by : (o : Option TaskRow) → row_in_slot k.tasks n ≡ o → slice_get critical n ≡ Some (greatest k.tasks n)
  by None e = holds.critical.free n low (λ r h z. (let b = has_map_back image k.tasks r h in none_there k.tasks n e b.item b.among (ap (λ (w : Slotted). w.slot) b.is ∙ z))) ∙ ap Some (sym (greatest_free k facts n low e))
  by (Some r) e =
      let f = keyed_has (λ (q : TaskRow). q.slot) n k.tasks r e in
      let o = of_row k facts r f.0 in
      ap (slice_get critical) (sym f.1 ∙ sym (slot_is k facts r f.0)) ∙ holds.critical.live (member_in k o.row r.job) (task_in k o.row r.job r) o.among o.live
      ∙ ap Some (critical_is k facts (stacks_of read k x critical ordered holds tables) (reach_of read k x critical ordered holds tables) holds.memory.slots.laid.room r f.0)
      ∙ ap (λ i. Some (greatest k.tasks i)) f.1
