use Rattle.std.proofs.Common.{List, ℕ, sym, ◌∙◌, ap, subst}
use Rattle.b67_layout_shown.specs.Machines.{sight_of}
use Rattle.b67_image_shape.specs.Deciding.{Decides}
use Rattle.b67_image_shape.specs.Items.{EachTask, CellFacts}
use Rattle.b67_image_shape.specs.CellWalk.{rows_stand}
use Rattle.b67_image_shape.proofs.cells.are_cells_in_order.Goals as goal

pub returns : goal.returns
returns c =
    subst (λ b. Decides b (EachTask (sight_of c.args.machine.now) (CellFacts (sight_of c.args.machine.now)))) (sym (c.rows_stand.ensures ∙ ap (λ (xs : List ℕ). rows_stand (sight_of c.args.machine.now) xs c.args.kinds.now) c.as_slice.ensures.value))
    (c.cells_are_decided.ensures (sight_of c.args.machine.now) c.args.machine.now.areas.low c.args.machine.now.areas.size c.in_ok-records.records.items c.args.kinds.now c.requires.tables c.requires.fixed c.requires.stacks c.words_are_small.ensures c.in_ok-records.ensures c.requires.kinds)
