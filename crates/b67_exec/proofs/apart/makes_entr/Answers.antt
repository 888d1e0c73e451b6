use Rattle.std.proofs.Common.{subst, sym}
use Rattle.b67_model.specs.declared.operators.Op.TheVariants.{Plain}
use Rattle.b67_model.specs.declared.operators.Code.TheVariants as codes
use Rattle.b67_stack.specs.declared.Cpu.{Cpu}
use Rattle.b67_layout.specs.Meets.{RunsSome}
use Rattle.b67_exec.specs.Far.{MadeAway}
use Rattle.b67_exec.proofs.Fars.{away_by}
use Rattle.b67_exec.proofs.apart.makes_entr.Goals as goal

pub returns-in-Some : goal.returns-in-Some
returns-in-Some c = away_by (Plain codes.Entr) c.args.next c.args.cpu.now c.entr_near.new.cpu c.requires.runs c.in-Some.step c.is_done.result c.is_done.new.why c.is_done.ensures (c.entr_near.ensures.row c.in-Some.step c.in-Some.is)

pub makes_far_entr-requires-clause-runs : goal.makes_far_entr-requires-clause-runs
makes_far_entr-requires-clause-runs c = subst RunsSome (sym (c.entr_near.ensures.kept c.in-None.is)) c.requires.runs

pub returns-in-None : goal.returns-in-None
returns-in-None c =
    subst (λ (z : Cpu). MadeAway (Plain codes.Entr) c.args.next z c.makes_far_entr.result c.makes_far_entr.new.cpu c.makes_far_entr.new.why) (c.entr_near.ensures.kept c.in-None.is) c.makes_far_entr.ensures
