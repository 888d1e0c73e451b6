use Rattle.std.proofs.Common.{◌≡◌, map, drop}
use Rattle.b67_task.specs.Tables.{job_row}
use Rattle.b67_image_shape.specs.ObjectTable.{mark_in_dictionary}
use Rattle.b67_image_shape.proofs.table.mark_in_dictionary.Given as goal

abbrev pub invariant-each : goal.invariant-each
invariant-each l = mark_in_dictionary (map job_row l.jobs) l.at ≡ mark_in_dictionary (map job_row (drop l.i l.jobs)) l.at
