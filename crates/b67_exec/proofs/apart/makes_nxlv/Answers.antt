use Rattle.std.proofs.Common.{sym, subst}
use Rattle.b67_model.specs.declared.operators.Op.TheVariants.{Plain}
use Rattle.b67_model.specs.declared.operators.Code.TheVariants as codes
use Rattle.b67_stack.specs.declared.Cpu.{Cpu}
use Rattle.b67_layout.specs.Meets.{RunsSome}
use Rattle.b67_exec.specs.Far.{MadeOn}
use Rattle.b67_exec.proofs.Fars.{on_rest, on_short}
use Rattle.b67_exec.proofs.apart.makes_nxlv.Goals as goal

pub returns-then-takes_own : goal.returns-then-takes_own
returns-then-takes_own c = on_short (Plain codes.Nxlv) c.args.next c.args.cpu.now c.takes_own.new.cpu c.takes_own.result c.if-takes_own.true c.takes_own.ensures

pub makes_far_nxlv-requires : goal.makes_far_nxlv-requires
makes_far_nxlv-requires c = subst (λ (z : Cpu). RunsSome z) (sym (on_rest (Plain codes.Nxlv) c.args.next c.args.cpu.now c.takes_own.new.cpu c.takes_own.result c.if-takes_own.false c.takes_own.ensures)) c.requires

pub returns : goal.returns
returns c =
    subst (λ (z : Cpu). MadeOn (Plain codes.Nxlv) c.args.next z c.makes_far_nxlv.result c.makes_far_nxlv.new.cpu c.makes_far_nxlv.new.why)
    (on_rest (Plain codes.Nxlv) c.args.next c.args.cpu.now c.takes_own.new.cpu c.takes_own.result c.if-takes_own.false c.takes_own.ensures) c.makes_far_nxlv.ensures
