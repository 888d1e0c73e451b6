use Rattle.std.proofs.Common.{◌≡◌, ℕ, ◌<◌, length, get_or}
use Rattle.b67_layout_shown.specs.Machines.{sight_of}
use Rattle.b67_image_shape.specs.ObjectTable.{mark_at}
use Rattle.b67_image_shape.proofs.table.table_of.Given as goal

abbrev pub invariant-each : goal.invariant-each
invariant-each l = (length l.kinds.items ≡ length l.machine.cpu.core) × ((n : ℕ) → n < l.at → get_or l.kinds.items n 0 ≡ mark_at (sight_of l.machine) n)
