use Rattle.std.proofs.Common.{subst, sym}
use Rattle.b67_model.specs.declared.operators.Op.TheVariants.{Plain}
use Rattle.b67_model.specs.declared.operators.Code.TheVariants as codes
use Rattle.b67_stack.specs.declared.Cpu.{Cpu}
use Rattle.b67_layout.specs.Meets.{RunsSome}
use Rattle.b67_exec.specs.Far.{MadeLeaving}
use Rattle.b67_exec.proofs.Fars.{leaving_rest, leaving_short}
use Rattle.b67_exec.proofs.arms.makes_any_exit.Goals as goal

pub returns-then-makes_exit : goal.returns-then-makes_exit
returns-then-makes_exit c = leaving_short (Plain codes.Exit) c.args.cpu.now c.makes_exit.new.cpu c.makes_exit.result c.if-makes_exit.true c.makes_exit.ensures

pub makes_last_exit-requires : goal.makes_last_exit-requires
makes_last_exit-requires c = subst RunsSome (sym (leaving_rest (Plain codes.Exit) c.args.cpu.now c.makes_exit.new.cpu c.makes_exit.result c.if-makes_exit.false c.makes_exit.ensures)) c.requires

pub returns : goal.returns
returns c =
    subst (λ (z : Cpu). MadeLeaving (Plain codes.Exit) z c.makes_last_exit.result c.makes_last_exit.new.cpu c.makes_last_exit.new.why)
    (leaving_rest (Plain codes.Exit) c.args.cpu.now c.makes_exit.new.cpu c.makes_exit.result c.if-makes_exit.false c.makes_exit.ensures) c.makes_last_exit.ensures
