use Rattle.std.proofs.Common.{arith}
use Rattle.b67_model_text.specs.Asm.{definitions}
use Rattle.b67_asm.specs.Names.{name_entries}
use Rattle.b67_asm.proofs.Taking.{names_grown}
use Rattle.b67_asm.proofs.names.meanings_of.Goals as goal

pub loop-line-preserved : goal.loop-line-preserved
loop-line-preserved c = (omega (arith, c.segments_behind-segments.ensures.near), omega (arith, c.rows_behind-rows.ensures.near), names_grown (name_entries c.loop-line.names.entries) (name_entries c.define_line.new.names.entries) (definitions 0 0 c.args.lines.now) c.args.lines.now c.line-item.result c.loop-line.line-index c.loop-line.segments c.loop-line.rows c.segments_behind-segments.result c.rows_behind-rows.result c.loop-line-test.true c.line-item.is c.segments_behind-segments.ensures.exact c.rows_behind-rows.ensures.exact c.in_ok-define_line.ensures c.loop-line.invariant.2)
