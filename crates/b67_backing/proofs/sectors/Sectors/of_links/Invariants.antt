use Rattle.std.proofs.Common.{◌-◌, ◌≤◌, length}
use Rattle.b67_backing.proofs.Threads.{Threads}
use Rattle.b67_backing.proofs.sectors.Sectors.of_links.Given as goal

abbrev pub invariant-down : goal.invariant-down
invariant-down l = record {
  threads : Threads l.links l.table.items (length l.links - l.k) l.first l.free;
  few : l.free ≤ l.k;
}
