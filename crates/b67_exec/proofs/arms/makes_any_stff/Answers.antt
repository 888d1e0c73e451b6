use Rattle.std.proofs.Common.{sym, subst}
use Rattle.b67_model.specs.declared.operators.Op.TheVariants.{Plain}
use Rattle.b67_model.specs.declared.operators.Code.TheVariants as codes
use Rattle.b67_stack.specs.declared.Cpu.{Cpu}
use Rattle.b67_layout.specs.Meets.{RunsSome}
use Rattle.b67_exec.specs.Far.{MadeOn}
use Rattle.b67_exec.proofs.Fars.{on_rest, on_short}
use Rattle.b67_exec.proofs.arms.makes_any_stff.Goals as goal

pub returns-then-makes_stff : goal.returns-then-makes_stff
returns-then-makes_stff c = on_short (Plain codes.Stff) c.args.next c.args.cpu.now c.makes_stff.new.cpu c.makes_stff.result c.if-makes_stff.true c.makes_stff.ensures

pub makes_far_stff-requires : goal.makes_far_stff-requires
makes_far_stff-requires c = subst (λ (z : Cpu). RunsSome z) (sym (on_rest (Plain codes.Stff) c.args.next c.args.cpu.now c.makes_stff.new.cpu c.makes_stff.result c.if-makes_stff.false c.makes_stff.ensures)) c.requires

pub returns : goal.returns
returns c =
    subst (λ (z : Cpu). MadeOn (Plain codes.Stff) c.args.next z c.makes_far_stff.result c.makes_far_stff.new.cpu c.makes_far_stff.new.why)
    (on_rest (Plain codes.Stff) c.args.next c.args.cpu.now c.makes_stff.new.cpu c.makes_stff.result c.if-makes_stff.false c.makes_stff.ensures) c.makes_far_stff.ensures
