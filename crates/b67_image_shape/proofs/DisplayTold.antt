-- What the display is told by, once all other items hold: the machine then represents what it shows but for its display, so the
-- running task's display can be made again and compared.
use Rattle.std.proofs.Common.{◌≡◌, ◌≢◌, ℕ, ◌-◌, List, [], Option, Some, None, refl, sym, ◌∙◌, ap, subst, arith}
use Rattle.std.specs.List.{slice_get}
use Rattle.std.proofs.lemmas.Option.{same_Some}
use Rattle.b67_ctl.specs.declared.registers.TheConstants.{NO_SLOT}
use Rattle.b67_lemmas.specs.Lists.{Has}
use Rattle.b67_lemmas.proofs.Members.{keyed_has, has_get}
use Rattle.b67_model.specs.Common.{Task, number_of}
use Rattle.b67_layout.specs.Common.{slot_of, TaskRow, JobRow, RunningRow, IsRunning, SessionHolds, ShowsDisplay}
use Rattle.b67_layout.proofs.Common.{but_counts}
use Rattle.b67_refer.specs.RunningContext.{RunningContext, IsShown}
use Rattle.b67_refer.proofs.Scenes.{scene}
use Rattle.b67_layout_shown.specs.Shown.{Sight, task_in, member_in, shown, placed}
use Rattle.b67_layout_shown.specs.Machines.{sight_of}
use Rattle.b67_task.specs.declared.tables.Machine.{Machine}
use Rattle.b67_image_shape.specs.TableFacts.{TableFacts}
use Rattle.b67_image_shape.specs.FixedWords.{FixedFacts, CriticalMarks}
use Rattle.b67_image_shape.specs.Items.{EachTask, StackFacts, ReachFacts, CellFacts, DisplayFacts, ObjectsFacts, AreaFacts, ChainFacts, ShownItems}
use Rattle.b67_image_shape.specs.Shape.{ShowsRunning, IsToldDisplay}
use Rattle.b67_image_shape.proofs.Rows.{of_row, row_fact, member_found, task_found, slot_is, same_slot}
use Rattle.b67_image_shape.proofs.EachTask.{by_row}
use Rattle.b67_image_shape.proofs.Memory.{storage_with, memory, settled}
use Rattle.b67_image_shape.proofs.OrderBack.{order_back}
use Rattle.b67_image_shape.proofs.HoldsBack.{holds_back}

-- the items but the display
pub record ButDisplay (k : Machine) : Type 0 where
  pub tables : TableFacts (sight_of k)
  pub fixed : FixedFacts (sight_of k) k.areas.low k.areas.size
  pub stacks : EachTask (sight_of k) (StackFacts (sight_of k))
  pub reach : EachTask (sight_of k) (ReachFacts (sight_of k))
  pub cells : EachTask (sight_of k) (CellFacts (sight_of k))
  pub critical : CriticalMarks k.cpu.critical (sight_of k).tasks
  pub objects : ObjectsFacts (sight_of k)
  pub areas : AreaFacts (sight_of k) k.areas.low
  pub chains : ChainFacts k

pub with_display : (k : Machine) → ButDisplay k → ShowsRunning k → ShownItems k
with_display k i d = grind arith

holds : (k : Machine) (i : ButDisplay k) → SessionHolds (storage_with (sight_of k) k.areas.low i.chains.shelf) k.cpu.core k.cpu.regs k.cpu.critical (placed (sight_of k)) (shown (sight_of k))
holds k i =
    let c = i.chains in
    holds_back (sight_of k) i.tables k.areas.low k.areas.size i.fixed i.stacks i.reach (storage_with (sight_of k) k.areas.low c.shelf) k.cpu.critical
    (memory (sight_of k) i.tables k.areas.low k.areas.size i.fixed i.stacks i.cells i.objects i.areas c.shelf k.sectors c.is c.each c.owned c.once)
    (settled (sight_of k) i.tables k.areas.low k.areas.size i.fixed i.stacks i.cells i.objects) i.critical

-- each running task's display, by the row in the running slot
module _ (k : Sight) (facts : TableFacts k) (display : List ℕ) where
  by_rows : ((r : TaskRow) (h : Has k.tasks r) → r.slot ≡ k.regs.slot → ShowsDisplay display (placed k) (member_in k (of_row k facts r h).row r.job) (task_in k (of_row k facts r h).row r.job r)) → DisplayFacts k display
  by_rows each m t run =
      let hm = (keyed_has number_of m.constants.number (shown k).jobs m run.member).0 in
      let ht = (keyed_has (λ (v : Task). v.number) t.number m.progress.job.tasks t run.task).0 in
      by_row k facts (λ m t. k.regs.slot ≡ slot_of (placed k) m.constants.number t.number → ShowsDisplay display (placed k) m t) (λ r h e. each r h (sym (slot_is k facts r h) ∙ sym e)) m t hm ht run.slot

  none_runs : k.regs.slot ≡ NO_SLOT → DisplayFacts k display
  none_runs e = by_rows (λ r h at. (let s = (row_fact k facts r h).slot in let p = facts.peak in absurd (omega (arith, s, p, at, e))))

  runs : (r : TaskRow) (h : Has k.tasks r) → r.slot ≡ k.regs.slot → IsRunning (placed k) (shown k).jobs (member_in k (of_row k facts r h).row r.job) (task_in k (of_row k facts r h).row r.job r)
  runs r h e = record { member = member_found k facts r h; task = task_found k facts r h; slot = sym e ∙ sym (slot_is k facts r h) }

  -- one row runs
  one_runs : (r : TaskRow) (h : Has k.tasks r) → r.slot ≡ k.regs.slot → ShowsDisplay display (placed k) (member_in k (of_row k facts r h).row r.job) (task_in k (of_row k facts r h).row r.job r) → DisplayFacts k display
  one_runs r h e d = by_rows (λ q hq at.
      let same : r ≡ q = same_slot k facts r q h hq (e ∙ sym at) in
      let row : (of_row k facts r h).row ≡ (of_row k facts q hq).row = same_Some (of_row k facts r h).row (of_row k facts q hq).row (sym (of_row k facts r h).found ∙ ap (λ (z : TaskRow). slice_get k.jobs (z.job - 1)) same ∙ (of_row k facts q hq).found) in
      subst (λ (w : JobRow). ShowsDisplay display (placed k) (member_in k w q.job) (task_in k w q.job q)) row
      (subst (λ (z : TaskRow). ShowsDisplay display (placed k) (member_in k (of_row k facts r h).row z.job) (task_in k (of_row k facts r h).row z.job z)) same d))

module _ (k : Machine) (i : ButDisplay k) where
  abbrev at_row : (r : TaskRow) (h : Has (sight_of k).tasks r) → r.slot ≡ k.cpu.regs.slot → RunningContext k.cpu.core k.cpu.regs
  at_row r h e =
      let s = sight_of k in
      scene [] (storage_with (sight_of k) k.areas.low i.chains.shelf) k.cpu.core k.cpu.regs k.cpu.critical (placed (sight_of k)) (shown (sight_of k))
      (member_in (sight_of k) (of_row (sight_of k) i.tables r h).row r.job) (task_in (sight_of k) (of_row (sight_of k) i.tables r h).row r.job r)
      (but_counts (shown (sight_of k)) (order_back (sight_of k) i.tables k.areas.low k.areas.size i.fixed i.stacks i.reach i.cells i.objects)) (holds k i) (runs (sight_of k) i.tables k.cpu.display r h e)

  some_runs : k.cpu.regs.slot ≢ NO_SLOT → (a : RunningContext k.cpu.core k.cpu.regs) × (IsShown a k.cpu.display → ShowsRunning k) × (ShowsRunning k → IsShown a k.cpu.display)
  some_runs some = by (slice_get (sight_of k).tasks (sight_of k).counts.running) refl i.tables.counts.running where
    by : (o : Option TaskRow) → slice_get (sight_of k).tasks (sight_of k).counts.running ≡ o → RunningRow (placed (sight_of k)) o (sight_of k).counts.running
        → (a : RunningContext k.cpu.core k.cpu.regs) × (IsShown a k.cpu.display → ShowsRunning k) × (ShowsRunning k → IsShown a k.cpu.display)
    by None e run = absurd (some run.1)
    by (Some r) e run =
        let h = has_get (sight_of k).tasks (sight_of k).counts.running r e in (
          at_row r h run.1,
          one_runs (sight_of k) i.tables k.cpu.display r h run.1,
          λ (d : ShowsRunning k). d (member_in (sight_of k) (of_row (sight_of k) i.tables r h).row r.job) (task_in (sight_of k) (of_row (sight_of k) i.tables r h).row r.job r) (runs (sight_of k) i.tables k.cpu.display r h run.1),
        )

  pub display_told : IsToldDisplay k
  display_told = record { none = none_runs (sight_of k) i.tables k.cpu.display; some = some_runs }
