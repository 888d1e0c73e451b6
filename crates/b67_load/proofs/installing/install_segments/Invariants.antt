use Rattle.std.proofs.Common.{◌≡◌, ◌≤◌, length, map, drop}
use Rattle.b67_codefile.specs.Meaning.{segment_of}
use Rattle.b67_load.specs.Objects.{code_from}
use Rattle.b67_load.proofs.Writing.{Going}
use Rattle.b67_load.proofs.installing.install_segments.Given as goal

abbrev pub invariant-loop-segment : goal.invariant-loop-segment
invariant-loop-segment g l = record {
  going : Going g.B.Backing.holds l.base (length l.segments) l.at (code_from l.base (map segment_of l.segments)) (code_from l.at (map segment_of (drop l.segment-index l.segments)))
      (record { core = l.initial.core; table = l.initial.sectors; device = l.initial.backing })
      (record { core = l.core; table = l.sectors; device = l.backing });
  size : g.B.Backing.size l.backing ≡ g.B.Backing.size l.initial.backing;
  faults : g.B.Backing.faults l.initial.backing ≤ g.B.Backing.faults l.backing;
  calls : g.B.Backing.calls l.initial.backing ≤ g.B.Backing.calls l.backing;
}
