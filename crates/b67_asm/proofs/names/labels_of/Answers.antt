use Rattle.std.proofs.Common.{arith}
use Rattle.b67_model_text.specs.Asm.{labels}
use Rattle.b67_asm.specs.Names.{label_entries}
use Rattle.b67_asm.proofs.Taking.{labels_grown}
use Rattle.b67_asm.proofs.names.labels_of.Goals as goal

pub loop-line-preserved : goal.loop-line-preserved
loop-line-preserved c = (omega (arith, c.reach-n.ensures.near), labels_grown (label_entries c.loop-line.labels.entries) (label_entries c.label_line.new.labels.entries) (labels 0 c.args.lines.now) c.args.lines.now c.line-item.result c.loop-line.line-index c.loop-line.n c.reach-n.result c.loop-line-test.true c.line-item.is c.reach-n.ensures.exact c.in_ok-label_line.ensures c.loop-line.invariant.1)
