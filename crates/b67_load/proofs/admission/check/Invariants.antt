use Rattle.std.proofs.Common.{◌≡◌, ◌+◌, drop}
use Rattle.b67_codefile.specs.Meaning.{program_of}
use Rattle.b67_load.proofs.FirstRefusal.{Segments}
use Rattle.b67_load.proofs.admission.check.Given as goal

abbrev pub invariant-segments : goal.invariant-segments
invariant-segments l = (l.number ≡ l.segment-index) × Segments (program_of l.file) (l.number + 1) (drop l.segment-index l.segments)
