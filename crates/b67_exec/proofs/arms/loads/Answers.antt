use Rattle.std.proofs.Common.{sym, subst, refl}
use Rattle.b67_model.specs.declared.operators.Op.TheVariants.{Plain}
use Rattle.b67_model.specs.declared.operators.Code.TheVariants as codes
use Rattle.b67_stack.specs.declared.Cpu.{Cpu}
use Rattle.b67_layout.specs.Meets.{RunsSome}
use Rattle.b67_model.specs.Operators.{Alone}
use Rattle.b67_exec.specs.Far.{MadeWent}
use Rattle.b67_exec.proofs.Through.{lone_through, inside_of}
use Rattle.b67_exec.proofs.Mades.{went_made, short_made}
use Rattle.b67_exec.proofs.Fars.{on_rest, on_short}
use Rattle.b67_exec.proofs.arms.loads.Goals as goal

pub returns-then-loads_own : goal.returns-then-loads_own
returns-then-loads_own c =
    let b = c.requires.stands in
    let next = c.after-next.result in
    short_made c.args.cpu.now c.loads_own.new.cpu c.args.reader.now next (Plain codes.Load) c.place.result c.requires.runs b (lone_through c.args.cpu.now c.args.reader.now b codes.Load next c.requires.begins (c.after-next.ensures 0 (inside_of c.args.cpu.now c.args.reader.now 0 (Alone codes.Load) c.requires.runs b c.requires.begins))) c.place.ensures
    refl (on_short (Plain codes.Load) c.place.result c.args.cpu.now c.loads_own.new.cpu c.loads_own.result c.if-loads_own.true c.loads_own.ensures)

pub makes_load-went-requires : goal.makes_load-went-requires
makes_load-went-requires c =
    subst (λ (z : Cpu). RunsSome z) (sym (on_rest (Plain codes.Load) c.place.result c.args.cpu.now c.loads_own.new.cpu c.loads_own.result c.if-loads_own.false c.loads_own.ensures)) c.requires.runs

pub returns : goal.returns
returns c =
    let b = c.requires.stands in
    let next = c.after-next.result in
    let same = on_rest (Plain codes.Load) c.place.result c.args.cpu.now c.loads_own.new.cpu c.loads_own.result c.if-loads_own.false c.loads_own.ensures in
    went_made c.args.cpu.now c.makes_load-went.new.cpu c.args.reader.now next (Plain codes.Load) c.place-2.result c.requires.runs b (lone_through c.args.cpu.now c.args.reader.now b codes.Load next c.requires.begins (c.after-next.ensures 0 (inside_of c.args.cpu.now c.args.reader.now 0 (Alone codes.Load) c.requires.runs b c.requires.begins))) c.place-2.ensures
    refl c.makes_load-went.result c.goes.result c.goes.new.reader c.makes_load-went.new.why
    (subst (λ (z : Cpu). MadeWent (Plain codes.Load) c.place-2.result z c.makes_load-went.result c.makes_load-went.new.cpu c.makes_load-went.new.why) same c.makes_load-went.ensures) c.goes.ensures
