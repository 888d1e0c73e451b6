use Rattle.std.proofs.Common.{subst, sym}
use Rattle.b67_model.specs.declared.operators.Op.TheVariants.{Valc}
use Rattle.b67_stack.specs.declared.Cpu.{Cpu}
use Rattle.b67_layout.specs.Meets.{RunsSome}
use Rattle.b67_exec.specs.Far.{MadeWent}
use Rattle.b67_exec.proofs.arms.makes_any_valc.Goals as goal

pub makes_far_valc-requires-clause-runs : goal.makes_far_valc-requires-clause-runs
makes_far_valc-requires-clause-runs c = subst RunsSome (sym c.in-Not.ensures) c.requires.runs

pub returns-in-Not : goal.returns-in-Not
returns-in-Not c = subst (λ (z : Cpu). MadeWent (Valc c.args.couple) c.args.next z c.makes_far_valc.result c.makes_far_valc.new.cpu c.makes_far_valc.new.why) c.in-Not.ensures c.makes_far_valc.ensures
