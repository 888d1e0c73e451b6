use Rattle.std.proofs.Common.{◌≡◌, ◌-◌, ◌*◌, ◌≤◌}
use Rattle.b67_task.specs.Sums.{core_sectors_from}
use Rattle.b67_task.proofs.sectors.range_sectors.Given as goal

abbrev pub invariant-loop-at : goal.invariant-loop-at
invariant-loop-at l = record { value : l.sum ≡ core_sectors_from l.code l.core l.from (l.at - l.from); low : l.sum ≤ 2185 * (l.at - l.from) }
