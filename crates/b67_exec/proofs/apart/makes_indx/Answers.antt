use Rattle.std.proofs.Common.{sym, subst}
use Rattle.b67_model.specs.declared.operators.Op.TheVariants.{Plain}
use Rattle.b67_model.specs.declared.operators.Code.TheVariants as codes
use Rattle.b67_stack.specs.declared.Cpu.{Cpu}
use Rattle.b67_layout.specs.Meets.{RunsSome}
use Rattle.b67_exec.specs.Far.{MadeOn}
use Rattle.b67_exec.proofs.Fars.{on_rest, on_short}
use Rattle.b67_exec.proofs.apart.makes_indx.Goals as goal

pub returns-then-indexes_own : goal.returns-then-indexes_own
returns-then-indexes_own c = on_short (Plain codes.Indx) c.args.next c.args.cpu.now c.indexes_own.new.cpu c.indexes_own.result c.if-indexes_own.true c.indexes_own.ensures

pub makes_far_indx-requires : goal.makes_far_indx-requires
makes_far_indx-requires c = subst (λ (z : Cpu). RunsSome z) (sym (on_rest (Plain codes.Indx) c.args.next c.args.cpu.now c.indexes_own.new.cpu c.indexes_own.result c.if-indexes_own.false c.indexes_own.ensures)) c.requires

pub returns : goal.returns
returns c =
    subst (λ (z : Cpu). MadeOn (Plain codes.Indx) c.args.next z c.makes_far_indx.result c.makes_far_indx.new.cpu c.makes_far_indx.new.why)
    (on_rest (Plain codes.Indx) c.args.next c.args.cpu.now c.indexes_own.new.cpu c.indexes_own.result c.if-indexes_own.false c.indexes_own.ensures) c.makes_far_indx.ensures
