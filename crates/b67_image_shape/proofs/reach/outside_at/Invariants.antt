use Rattle.std.proofs.Common.{◌≡◌, map}
use Rattle.b67_layout_shown.specs.Machines.{sight_of}
use Rattle.b67_task.specs.Tables.{task_row}
use Rattle.b67_image_shape.specs.TableFacts.{row_in_slot}
use Rattle.b67_image_shape.specs.Reaching.{outside_at}
use Rattle.b67_image_shape.proofs.reach.outside_at.Given as goal

abbrev pub invariant-up : goal.invariant-up
invariant-up l =
    outside_at (sight_of l.machine) l.turns l.critical (row_in_slot (map task_row l.machine.tasks.rows.items) l.parent) l.at
    ≡ outside_at (sight_of l.machine) l.left l.disp (row_in_slot (map task_row l.machine.tasks.rows.items) l.slot) l.at

abbrev pub decreases-up : goal.decreases-up
decreases-up l = l.left
