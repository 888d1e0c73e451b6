use Rattle.b67_model.specs.declared.operators.Op.TheVariants.{Plain}
use Rattle.b67_model.specs.declared.operators.Code.TheVariants as codes
use Rattle.b67_exec.proofs.Fars.{away_by}
use Rattle.b67_exec.proofs.apart.makes_far_entr.Goals as goal

pub returns : goal.returns
returns c = away_by (Plain codes.Entr) c.args.next c.args.cpu.now c.entr-step.new.cpu c.requires.runs c.entr-step.result c.is_done.result c.is_done.new.why c.is_done.ensures c.entr-step.ensures.row
