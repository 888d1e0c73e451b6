use Rattle.std.proofs.Common.{◌≡◌, length, map, nat_lt}
use Rattle.std.specs.List.{list_all}
use Rattle.b67_model.specs.Schedule as schedule
use Rattle.b67_task.specs.Tables.{switch_of}
use Rattle.b67_image_shape.proofs.table_counts.all_below.Given as goal

abbrev pub invariant-each : goal.invariant-each
invariant-each l = list_all (λ (w : schedule.Switch). nat_lt w.count l.made) (map switch_of l.switches) ≡ list_all (λ (w : schedule.Switch). nat_lt w.count l.made) (map switch_of l.left)

abbrev pub decreases-each : goal.decreases-each
decreases-each l = length l.left
