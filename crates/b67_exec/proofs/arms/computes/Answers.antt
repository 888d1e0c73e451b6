use Rattle.std.proofs.Common.{refl}
use Rattle.b67_model.specs.declared.operators.Op.TheVariants.{Plain}
use Rattle.b67_model.specs.Operators.{Alone}
use Rattle.b67_exec.proofs.Through.{lone_through, inside_of}
use Rattle.b67_exec.proofs.Mades.{on_made, on_refused, top_stays}
use Rattle.b67_exec.proofs.arms.computes.Goals as goal

pub returns-then-not-makes_plain : goal.returns-then-not-makes_plain
returns-then-not-makes_plain c =
    let old = c.args.cpu.now in
    let before = c.args.reader.now in
    let b = c.requires.stands in
    let next = c.after-next.result in
    let d = c.after-next.ensures 0 (inside_of old before 0 (Alone c.args.code) c.requires.runs b c.requires.begins) in
    let no = on_refused old c.makes_plain.new.cpu before next (Plain c.args.code) c.place.result c.requires.runs b (lone_through old before b c.args.code next c.requires.begins d) c.place.ensures (top_stays c.args.code c.requires.top) c.makes_plain.result c.makes_plain.new.why c.if-not-makes_plain.true c.makes_plain.ensures in
    (no.0, refl, no.1)

pub returns : goal.returns
returns c =
    let old = c.args.cpu.now in
    let before = c.args.reader.now in
    let b = c.requires.stands in
    let next = c.after-next.result in
    let d = c.after-next.ensures 0 (inside_of old before 0 (Alone c.args.code) c.requires.runs b c.requires.begins) in
    on_made old c.makes_plain.new.cpu before next (Plain c.args.code) c.place.result c.requires.runs b (lone_through old before b c.args.code next c.requires.begins d) c.place.ensures (top_stays c.args.code c.requires.top) c.makes_plain.result c.makes_plain.new.why c.if-not-makes_plain.false c.makes_plain.ensures
