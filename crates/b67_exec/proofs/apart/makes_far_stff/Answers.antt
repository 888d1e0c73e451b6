use Rattle.b67_model.specs.declared.operators.Op.TheVariants.{Plain}
use Rattle.b67_model.specs.declared.operators.Code.TheVariants as codes
use Rattle.b67_exec.proofs.Fars.{on_by}
use Rattle.b67_exec.proofs.apart.makes_far_stff.Goals as goal

pub returns : goal.returns
returns c = on_by (Plain codes.Stff) c.args.next c.args.cpu.now c.stff-step.new.cpu c.requires c.stff-step.result c.is_done.result c.is_done.new.why c.is_done.ensures c.stff-step.ensures.row c.stff-step.ensures.stays
