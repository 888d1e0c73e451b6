use Rattle.std.proofs.Common.{refl}
use Rattle.b67_model.specs.declared.operators.Op.TheVariants.{Plain}
use Rattle.b67_model.specs.declared.operators.Code.TheVariants as codes
use Rattle.b67_model.specs.Operators.{Alone}
use Rattle.b67_exec.proofs.Through.{lone_through, inside_of}
use Rattle.b67_exec.proofs.Mades.{away_made, away_refused, place_behind}
use Rattle.b67_exec.proofs.arms.enters.Goals as goal

pub makes_entr-requires-clause-next : goal.makes_entr-requires-clause-next
makes_entr-requires-clause-next c =
    let b = c.requires.stands in
    let next = c.after-next.result in
    let d = c.after-next.ensures 0 (inside_of c.args.cpu.now c.args.reader 0 (Alone codes.Entr) c.requires.runs b c.requires.begins) in
    place_behind c.args.cpu.now (Plain codes.Entr) next c.place.result c.requires.runs (lone_through c.args.cpu.now c.args.reader b codes.Entr next c.requires.begins d) c.place.ensures

pub returns-then-makes_entr : goal.returns-then-makes_entr
returns-then-makes_entr c =
    let b = c.requires.stands in
    let next = c.after-next.result in
    let d = c.after-next.ensures 0 (inside_of c.args.cpu.now c.args.reader 0 (Alone codes.Entr) c.requires.runs b c.requires.begins) in
    away_made c.args.cpu.now c.makes_entr.new.cpu c.args.reader next (Plain codes.Entr) c.place.result c.requires.runs b (lone_through c.args.cpu.now c.args.reader b codes.Entr next c.requires.begins d) c.place.ensures
    refl c.makes_entr.result c.makes_entr.new.why c.if-makes_entr.true c.makes_entr.ensures

pub returns-else-makes_entr : goal.returns-else-makes_entr
returns-else-makes_entr c =
    let b = c.requires.stands in
    let next = c.after-next.result in
    let d = c.after-next.ensures 0 (inside_of c.args.cpu.now c.args.reader 0 (Alone codes.Entr) c.requires.runs b c.requires.begins) in
    let no = away_refused c.args.cpu.now c.makes_entr.new.cpu c.args.reader next (Plain codes.Entr) c.place.result c.requires.runs b (lone_through c.args.cpu.now c.args.reader b codes.Entr next c.requires.begins d) c.place.ensures
    refl c.makes_entr.result c.makes_entr.new.why c.if-makes_entr.false c.makes_entr.ensures in
    (no.0, refl, no.1)
