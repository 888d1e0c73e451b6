use Rattle.std.proofs.Common.{◌∙◌, sym, ap, List, nat_lt}
use Rattle.std.specs.List.{list_all, take-map}
use Rattle.b67_model.specs.Schedule as schedule
use Rattle.b67_task.specs.Tables.{switch_of}
use Rattle.b67_image_shape.proofs.table_counts.all_past.Goals as goal

pub returns : goal.returns
returns c = c.all_below.ensures ∙ ap (λ (ws : List schedule.Switch). list_all (λ (w : schedule.Switch). nat_lt w.count c.args.made) ws) (sym (take-map switch_of c.args.next c.args.switches.now))
