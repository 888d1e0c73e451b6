use Rattle.std.proofs.Common.{arith}
use Rattle.b67_model.specs.declared.operators.Op.TheVariants.{Plain}
use Rattle.b67_model.specs.declared.operators.Code.TheVariants as codes
use Rattle.b67_exec.proofs.Fars.{leaving_shortly}
use Rattle.b67_exec.proofs.apart.makes_retn.Goals as goal

pub returns : goal.returns
returns c =
    let e = c.retn-step.ensures in
    leaving_shortly (Plain codes.Retn) c.args.cpu.now c.retn-step.new.cpu c.requires c.retn-step.result c.is_made.result c.is_made.ensures
    (λ next x plan s m t ordered h runs. e.row x plan s m t ordered h runs next) (λ done. record { above = e.above; low = omega (arith, (e.top done).0); high = (e.top done).1 })
