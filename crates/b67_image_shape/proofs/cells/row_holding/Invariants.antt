use Rattle.std.proofs.Common.{◌≡◌, map, drop}
use Rattle.b67_layout_shown.specs.Machines.{sight_of}
use Rattle.b67_task.specs.Tables.{task_row}
use Rattle.b67_image_shape.specs.CellWalk.{row_holding}
use Rattle.b67_image_shape.proofs.cells.row_holding.Given as goal

abbrev pub invariant-each : goal.invariant-each
invariant-each l = row_holding (sight_of l.machine) l.at (map task_row l.rows) ≡ row_holding (sight_of l.machine) l.at (map task_row (drop l.i l.rows))
