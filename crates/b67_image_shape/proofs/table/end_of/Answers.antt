use Rattle.std.proofs.Common.{ap, map, ◌∙◌}
use Rattle.b67_task.specs.declared.tables.TaskRow.{TaskRow}
use Rattle.std.specs.Prelude.{List}
use Rattle.b67_task.specs.Tables.{task_row}
use Rattle.b67_image_shape.specs.TableFacts.{row_in_slot}
use Rattle.b67_layout_shown.specs.Machines.{sight_of}
use Rattle.b67_image_shape.proofs.TableTurns.{end_found, end_none}
use Rattle.b67_image_shape.proofs.table.end_of.Goals as goal

pub returns-in-Some : goal.returns-in-Some
returns-in-Some c = end_found (sight_of c.args.machine.now) c.top_of.result.s c.find_row.result _ _ (c.find_row.ensures ∙ ap (λ (xs : List TaskRow). row_in_slot (map task_row xs) c.args.slot) c.as_slice.ensures.value) c.in-Some.is c.top_of.ensures.s

pub returns-in-None : goal.returns-in-None
returns-in-None c = end_none (sight_of c.args.machine.now) c.find_row.result _ (c.find_row.ensures ∙ ap (λ (xs : List TaskRow). row_in_slot (map task_row xs) c.args.slot) c.as_slice.ensures.value) c.in-None.is
