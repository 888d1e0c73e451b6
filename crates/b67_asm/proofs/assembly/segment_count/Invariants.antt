use Rattle.std.proofs.Common.{◌≡◌, ◌≤◌, drop}
use Rattle.b67_model_text.specs.Asm.{segment_count}
use Rattle.b67_asm.proofs.assembly.segment_count.Given as goal

abbrev pub invariant-loop-line : goal.invariant-loop-line
invariant-loop-line l = (l.segments ≤ l.line-index) × (segment_count l.segments (drop l.line-index l.lines) ≡ segment_count 0 l.lines)
