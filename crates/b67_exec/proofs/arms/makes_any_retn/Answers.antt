use Rattle.std.proofs.Common.{subst, sym}
use Rattle.b67_model.specs.declared.operators.Op.TheVariants.{Plain}
use Rattle.b67_model.specs.declared.operators.Code.TheVariants as codes
use Rattle.b67_stack.specs.declared.Cpu.{Cpu}
use Rattle.b67_layout.specs.Meets.{RunsSome}
use Rattle.b67_exec.specs.Far.{MadeLeaving}
use Rattle.b67_exec.proofs.Fars.{leaving_rest, leaving_short}
use Rattle.b67_exec.proofs.arms.makes_any_retn.Goals as goal

pub returns-then-makes_retn : goal.returns-then-makes_retn
returns-then-makes_retn c = leaving_short (Plain codes.Retn) c.args.cpu.now c.makes_retn.new.cpu c.makes_retn.result c.if-makes_retn.true c.makes_retn.ensures

pub makes_last_retn-requires : goal.makes_last_retn-requires
makes_last_retn-requires c = subst RunsSome (sym (leaving_rest (Plain codes.Retn) c.args.cpu.now c.makes_retn.new.cpu c.makes_retn.result c.if-makes_retn.false c.makes_retn.ensures)) c.requires

pub returns : goal.returns
returns c =
    subst (λ (z : Cpu). MadeLeaving (Plain codes.Retn) z c.makes_last_retn.result c.makes_last_retn.new.cpu c.makes_last_retn.new.why)
    (leaving_rest (Plain codes.Retn) c.args.cpu.now c.makes_retn.new.cpu c.makes_retn.result c.if-makes_retn.false c.makes_retn.ensures) c.makes_last_retn.ensures
