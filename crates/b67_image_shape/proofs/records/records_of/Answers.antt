use Rattle.std.proofs.Common.{rules, ℕ, replicate, ◌∙◌, ap}
use Rattle.b67_layout_shown.specs.Machines.{sight_of}
use Rattle.b67_image_shape.proofs.RecordsFilled.{records_lent}
use Rattle.b67_image_shape.proofs.records.records_of.Goals as goal

pub returns : goal.returns
returns c =
    records_lent (sight_of c.args.machine.now) c.requires.tables c.args.machine.now.areas.low c.args.machine.now.areas.size c.requires.fixed c.requires.stacks c.in_ok-records.records.items c.fill_rows.new.records c.in_ok-records.records.len (search rules)
    (c.in_ok-records.ensures.items_if_clones_equal (λ y e. e) ∙ ap (λ n. replicate {A = ℕ} n 0) c.size.ensures.value) (search rules)
