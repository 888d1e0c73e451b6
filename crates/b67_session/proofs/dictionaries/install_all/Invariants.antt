use Rattle.std.proofs.Common.{◌≡◌, ◌≤◌, map, drop}
use Rattle.b67_codefile.specs.Meaning.{program_of}
use Rattle.b67_session.proofs.Heads.{Installing}
use Rattle.b67_session.proofs.dictionaries.install_all.Given as goal

abbrev pub invariant-programs : goal.invariant-programs
invariant-programs g l = record {
  installing : Installing g.B.Backing.holds l.at (map program_of l.programs) (map program_of (drop l.program-index l.programs))
      (record { core = l.initial.cpu.core; table = l.initial.sectors; device = l.initial.backing })
      (record { core = l.cpu.core; table = l.sectors; device = l.backing });
  cpu : l.cpu ≡ record l.initial.cpu { core = l.cpu.core };
  size : g.B.Backing.size l.backing ≡ g.B.Backing.size l.initial.backing;
  faults : g.B.Backing.faults l.initial.backing ≤ g.B.Backing.faults l.backing;
  calls : g.B.Backing.calls l.initial.backing ≤ g.B.Backing.calls l.backing;
}
