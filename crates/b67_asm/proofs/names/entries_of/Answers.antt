use Rattle.std.proofs.Common.{is_some}
use Rattle.b67_model_text.specs.Asm.{meaning}
use Rattle.b67_asm.specs.Names.{label_entries}
use Rattle.b67_asm.proofs.Taking.{entries_grown}
use Rattle.b67_asm.proofs.names.entries_of.Goals as goal

pub loop-line-preserved : goal.loop-line-preserved
loop-line-preserved c = λ q. entries_grown (is_some (meaning (label_entries c.loop-line.entries.entries) q)) (is_some (meaning (label_entries c.enter_line.new.entries.entries) q)) c.args.lines.now c.line-item.result c.loop-line.line-index q _ c.loop-line-test.true c.line-item.is (c.in_ok-enter_line.ensures q) (c.loop-line.invariant q)
