use Rattle.std.proofs.Common.{◌≡◌, ◌≤◌, length, map, drop}
use Rattle.b67_word.specs.Tagged.{contents}
use Rattle.b67_load.specs.Objects.{rows_from}
use Rattle.b67_load.proofs.Writing.{Going}
use Rattle.b67_load.proofs.installing.install_rows.Given as goal

abbrev pub invariant-loop-row : goal.invariant-loop-row
invariant-loop-row g l = record {
  going : Going g.B.Backing.holds l.base (length l.rows) l.at (rows_from l.base (map contents l.rows)) (rows_from l.at (map contents (drop l.row-index l.rows)))
      (record { core = l.initial.core; table = l.initial.sectors; device = l.initial.backing })
      (record { core = l.core; table = l.sectors; device = l.backing });
  size : g.B.Backing.size l.backing ≡ g.B.Backing.size l.initial.backing;
  faults : g.B.Backing.faults l.initial.backing ≤ g.B.Backing.faults l.backing;
  calls : g.B.Backing.calls l.initial.backing ≤ g.B.Backing.calls l.backing;
}
