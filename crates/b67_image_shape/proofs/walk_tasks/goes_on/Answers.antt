use Rattle.std.proofs.Common.{◌-◌, ◌∙◌, ap}
use Rattle.b67_word.specs.declared.couples.Place.{Place}
use Rattle.b67_layout_shown.specs.Machines.{sight_of}
use Rattle.b67_layout_shown.specs.Shown.{top_in}
use Rattle.b67_task.specs.Tables.{task_row}
use Rattle.b67_image_shape.specs.TaskWalk.{is_segment_place}
use Rattle.b67_image_shape.proofs.walk_tasks.goes_on.Goals as goal

pub returns : goal.returns
returns c =
    let top = c.top_of-top.ensures in
    c.is_segment_place.ensures
    ∙ ap (λ n. is_segment_place c.args.segments (n - 1) c.top_of-top.result.place) top.segment
    ∙ ap (λ (p : Place). is_segment_place c.args.segments ((top_in (sight_of c.args.machine.now) (task_row c.args.row)).segment - 1) p) top.place
