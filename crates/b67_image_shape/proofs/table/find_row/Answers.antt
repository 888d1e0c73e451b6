use Rattle.std.proofs.Common.{◌∙◌, ap, map}
use Rattle.b67_task.specs.Tables.{task_row}
use Rattle.b67_image_shape.specs.TableFacts.{row_in_slot}
use Rattle.b67_image_shape.proofs.table.find_row.Goals as goal

pub returns : goal.returns
returns c = c.row_in_slot.ensures ∙ ap (row_in_slot (map task_row c.args.rows.now)) c.from.ensures
