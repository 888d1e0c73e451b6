use Rattle.b67_model.specs.declared.operators.Op.TheVariants.{Plain}
use Rattle.b67_exec.proofs.Fars.{on_by}
use Rattle.b67_exec.proofs.apart.makes_plain.Goals as goal

pub returns : goal.returns
returns c = on_by (Plain c.args.code) c.args.next c.args.cpu.now c.on_top-step.new.cpu c.requires.runs c.on_top-step.result c.is_done.result c.is_done.new.why c.is_done.ensures c.on_top-step.ensures.row c.on_top-step.ensures.stays
