use Rattle.std.proofs.Common.{◌≡◌, ◌≤◌, map}
use Rattle.b67_io.specs.Causes.{Rose}
use Rattle.b67_word.specs.Numbers.{number}
use Rattle.b67_backing.specs.Shelf.{Shelf, HasChain, chain_of}
use Rattle.b67_backing.proofs.Stores.{Storing}
use Rattle.b67_backing.proofs.sectors.Sectors.fill.Given as goal

abbrev pub invariant-loop-j : goal.invariant-loop-j
invariant-loop-j g l = record {
  storing : (st : Shelf) → HasChain l.self st l.first l.sectors
      → Storing g.B.Backing.holds l.self.links (chain_of l.first st.chains) l.sectors l.j l.at (map number l.from) l.initial.backing l.backing;
  size : g.B.Backing.size l.backing ≡ g.B.Backing.size l.initial.backing;
  faults : g.B.Backing.faults l.initial.backing ≤ g.B.Backing.faults l.backing;
  calls : g.B.Backing.calls l.initial.backing ≤ g.B.Backing.calls l.backing;
  rose : 1 ≤ l.j → Rose g.B.Backing.calls l.initial.backing l.backing;
}
