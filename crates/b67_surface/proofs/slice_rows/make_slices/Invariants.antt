use Rattle.std.proofs.Common.{◌≡◌, ◌+◌, length}
use Rattle.b67_session.specs.Slices.{IsOpen}
use Rattle.b67_surface.proofs.slice_rows.make_slices.Given as goal

abbrev pub invariant-turns : goal.invariant-turns
invariant-turns g l = record {
  goes_on : IsOpen (g.B.Backing.holds l.backing) l.session;
  sized : g.B.Backing.size l.backing + 1 ≡ length l.session.sectors.links;
}
