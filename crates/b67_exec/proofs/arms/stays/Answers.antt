use Rattle.std.proofs.Common.{refl}
use Rattle.b67_model.specs.declared.operators.Op.TheVariants.{Plain}
use Rattle.b67_model.specs.Operators.{Alone}
use Rattle.b67_exec.proofs.Through.{lone_through, inside_of}
use Rattle.b67_exec.proofs.Mades.{on_made, on_refused, behind_stays}
use Rattle.b67_exec.proofs.arms.stays.Goals as goal

pub returns-then-not-makes_behind : goal.returns-then-not-makes_behind
returns-then-not-makes_behind c =
    let old = c.args.cpu.now in
    let before = c.args.reader.now in
    let b = c.requires.stands in
    let next = c.after-next.result in
    let d = c.after-next.ensures 0 (inside_of old before 0 (Alone c.args.code) c.requires.runs b c.requires.begins) in
    let no = on_refused old c.makes_behind.new.cpu before next (Plain c.args.code) c.place.result c.requires.runs b (lone_through old before b c.args.code next c.requires.begins d) c.place.ensures (behind_stays c.args.code c.requires.behind) c.makes_behind.result c.makes_behind.new.why c.if-not-makes_behind.true c.makes_behind.ensures in
    (no.0, refl, no.1)

pub returns : goal.returns
returns c =
    let old = c.args.cpu.now in
    let before = c.args.reader.now in
    let b = c.requires.stands in
    let next = c.after-next.result in
    let d = c.after-next.ensures 0 (inside_of old before 0 (Alone c.args.code) c.requires.runs b c.requires.begins) in
    on_made old c.makes_behind.new.cpu before next (Plain c.args.code) c.place.result c.requires.runs b (lone_through old before b c.args.code next c.requires.begins d) c.place.ensures (behind_stays c.args.code c.requires.behind) c.makes_behind.result c.makes_behind.new.why c.if-not-makes_behind.false c.makes_behind.ensures
