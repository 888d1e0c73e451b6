use Rattle.b67_model.specs.declared.operators.Op.TheVariants.{Plain}
use Rattle.b67_model.specs.declared.operators.Code.TheVariants as codes
use Rattle.b67_exec.proofs.Fars.{leaving_by, exit_cuts}
use Rattle.b67_exec.proofs.apart.makes_last_exit.Goals as goal

pub returns : goal.returns
returns c =
    let e = c.exit-step.ensures in
    leaving_by (Plain codes.Exit) c.args.cpu.now c.exit-step.new.cpu c.requires c.exit-step.result c.is_done.result c.is_done.new.why c.is_done.ensures
    (λ next x plan s m t ordered h runs. e.row x plan s m t ordered h runs next) (λ done. exit_cuts c.args.cpu.now c.exit-step.new.cpu e.core (e.top done))
