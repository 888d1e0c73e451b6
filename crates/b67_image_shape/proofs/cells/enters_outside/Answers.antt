use Rattle.std.proofs.Common.{List, map, sym, ◌∙◌, ap}
use Rattle.b67_layout_shown.specs.Machines.{sight_of}
use Rattle.b67_task.specs.declared.tables.TaskRow.{TaskRow}
use Rattle.b67_task.specs.Tables.{task_row}
use Rattle.b67_image_shape.specs.TableFacts.{row_in_slot}
use Rattle.b67_image_shape.specs.CellWalk.{place, enters_outside}
use Rattle.b67_image_shape.proofs.CellTurns.{enter_next}
use Rattle.b67_image_shape.proofs.cells.enters_outside.Goals as goal

pub up-preserved : goal.up-preserved
up-preserved c =
    enter_next (sight_of c.args.machine.now) c.args.records.now (place c.args.stack c.args.disp) (enters_outside (sight_of c.args.machine.now) c.args.records.now (place c.args.stack c.args.disp) c.args.turns c.args.critical (row_in_slot (map task_row c.args.machine.now.tasks.rows.items) c.args.parent))
    c.up.left c.up.mark c.up.slot c.find_row.result c.in-Some.p c.up.invariant c.up-test.true (c.find_row.ensures ∙ ap (λ (xs : List TaskRow). row_in_slot (map task_row xs) c.up.slot) c.as_slice.ensures.value) c.in-Some.is (sym c.enters_from.ensures ∙ c.if-enters_from.false)
