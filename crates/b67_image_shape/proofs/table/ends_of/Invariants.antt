use Rattle.std.proofs.Common.{◌≡◌, ℕ, ◌<◌, length, get_or, map}
use Rattle.b67_task.specs.Tables.{task_row}
use Rattle.b67_layout_shown.specs.Machines.{sight_of}
use Rattle.b67_image_shape.specs.TableFacts.{row_in_slot}
use Rattle.b67_image_shape.specs.TableMarks.{end_by}
use Rattle.b67_image_shape.proofs.table.ends_of.Given as goal

abbrev pub invariant-each : goal.invariant-each
invariant-each l = (length l.ends.items ≡ 120) × ((n : ℕ) → n < l.slot → get_or l.ends.items n 0 ≡ end_by (sight_of l.machine) (row_in_slot (map task_row l.machine.tasks.rows.items) n))
