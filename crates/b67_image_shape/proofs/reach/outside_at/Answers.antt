use Rattle.std.proofs.Common.{List, map, sym, ◌∙◌, ap}
use Rattle.b67_layout_shown.specs.Machines.{sight_of}
use Rattle.b67_task.specs.declared.tables.TaskRow.{TaskRow}
use Rattle.b67_task.specs.Tables.{task_row}
use Rattle.b67_image_shape.specs.TableFacts.{row_in_slot}
use Rattle.b67_image_shape.specs.Reaching.{outside_at}
use Rattle.b67_image_shape.proofs.ReachTurns.{parent_next}
use Rattle.b67_image_shape.proofs.reach.outside_at.Goals as goal

pub up-preserved : goal.up-preserved
up-preserved c =
    parent_next (sight_of c.args.machine.now) c.args.at (outside_at (sight_of c.args.machine.now) c.args.turns c.args.critical (row_in_slot (map task_row c.args.machine.now.tasks.rows.items) c.args.parent) c.args.at)
    c.up.left c.up.disp c.up.slot c.find_row.result c.in-Some.p c.up.invariant c.up-test.true (c.find_row.ensures ∙ ap (λ (xs : List TaskRow). row_in_slot (map task_row xs) c.up.slot) c.as_slice.ensures.value) c.in-Some.is (sym c.kept_at.ensures ∙ c.if-kept_at.false)
