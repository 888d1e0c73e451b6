use Rattle.std.proofs.Common.{◌≡◌, map}
use Rattle.b67_layout_shown.specs.Machines.{sight_of}
use Rattle.b67_task.specs.Tables.{task_row}
use Rattle.b67_image_shape.specs.TableFacts.{row_in_slot}
use Rattle.b67_image_shape.specs.CellWalk.{place, enters_outside}
use Rattle.b67_image_shape.proofs.cells.enters_outside.Given as goal

abbrev pub invariant-up : goal.invariant-up
invariant-up l =
    enters_outside (sight_of l.machine) l.records (place l.stack l.disp) l.turns l.critical (row_in_slot (map task_row l.machine.tasks.rows.items) l.parent)
    ≡ enters_outside (sight_of l.machine) l.records (place l.stack l.disp) l.left l.mark (row_in_slot (map task_row l.machine.tasks.rows.items) l.slot)

abbrev pub decreases-up : goal.decreases-up
decreases-up l = l.left
