use Rattle.std.proofs.Common.{refl}
use Rattle.b67_model.specs.declared.operators.Op.TheVariants.{Plain}
use Rattle.b67_model.specs.Rows.{plain as plain_row}
use Rattle.b67_model.specs.Operators.{Alone}
use Rattle.b67_exec.specs.Near.{reader_place}
use Rattle.b67_exec.proofs.Through.{lone_through, straight_made, inside_of, each_as, moves_straight}
use Rattle.b67_exec.proofs.arms.alone.Goals as goal

pub returns : goal.returns
returns c =
    let old = c.args.cpu.now in
    let new = c.moves-step.new.cpu in
    let before = c.args.reader.now in
    let next = c.after-next.result in
    let b = c.requires.stands in
    let d = c.after-next.ensures 0 (inside_of old before 0 (Alone c.args.code) c.requires.runs b c.requires.begins) in
    straight_made old new before next c.went_on.new.reader (Plain c.args.code) c.moves-step.result c.went_on.result c.went_on.new.why c.requires.runs b (moves_straight c.args.code c.requires.moves) (lone_through old before b c.args.code next c.requires.begins d)
    (each_as old new c.moves-step.result (Plain c.args.code) c.place.result (reader_place next) (plain_row c.args.code) c.place.ensures (λ h. refl) c.moves-step.ensures) c.went_on.ensures
