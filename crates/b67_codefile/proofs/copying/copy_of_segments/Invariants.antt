use Rattle.std.proofs.Common.{◌≡◌, take}
use Rattle.b67_codefile.proofs.copying.copy_of_segments.Given as goal

abbrev pub invariant-loop-segment : goal.invariant-loop-segment
invariant-loop-segment l = l.copy ≡ take l.segment-index l.segments
