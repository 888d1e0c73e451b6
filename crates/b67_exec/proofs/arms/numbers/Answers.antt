use Rattle.b67_model.specs.declared.operators.Op.TheVariants.{Plain}
use Rattle.b67_model.specs.Common.{on_cells, on_two}
use Rattle.b67_arith.specs.Numerics.{of_numbers}
use Rattle.b67_model.specs.Operators.{Alone}
use Rattle.b67_exec.specs.Near.{code_of_numbers, reader_place}
use Rattle.b67_exec.proofs.Through.{lone_through, straight_made, inside_of, each_as, numbers_row, numbers_straight}
use Rattle.b67_exec.proofs.arms.numbers.Goals as goal

pub returns : goal.returns
returns c =
    let old = c.args.cpu.now in
    let new = c.on_numbers-step.new.cpu in
    let before = c.args.reader.now in
    let next = c.after-next.result in
    let b = c.requires.stands in
    let d = c.after-next.ensures 0 (inside_of old before 0 (Alone (code_of_numbers c.args.op)) c.requires.runs b c.requires.begins) in
    straight_made old new before next c.went_on.new.reader (Plain (code_of_numbers c.args.op)) c.on_numbers-step.result c.went_on.result c.went_on.new.why c.requires.runs b (numbers_straight c.args.op) (lone_through old before b (code_of_numbers c.args.op) next c.requires.begins d)
    (each_as old new c.on_numbers-step.result (Plain (code_of_numbers c.args.op)) c.place.result (reader_place next) (λ h. on_cells (on_two (of_numbers c.args.op)) h) c.place.ensures (numbers_row c.args.op) c.on_numbers-step.ensures.row) c.went_on.ensures
