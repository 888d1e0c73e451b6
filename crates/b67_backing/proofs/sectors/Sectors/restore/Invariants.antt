use Rattle.std.proofs.Common.{◌≡◌, ℕ, ◌<◌, ◌≤◌, ◌+◌, ◌*◌, ◌^◌, ◌⊎◌, length, Some}
use Rattle.std.specs.List.{slice_get}
use Rattle.b67_word.specs.Tagged.{Tagged}
use Rattle.b67_io.specs.Causes.{Rose}
use Rattle.b67_backing.specs.Shelf.{Shelf, HasChain, chain_of}
use Rattle.b67_backing.specs.Held.{Becomes, sectors_for}
use Rattle.b67_backing.proofs.Stores.{Restoring}
use Rattle.b67_backing.proofs.sectors.Sectors.restore.Given as goal

abbrev pub invariant-loop-j : goal.invariant-loop-j
invariant-loop-j g l = record {
  restoring : (st : Shelf) → HasChain l.self st l.first (sectors_for l.words)
      → Restoring g.B.Backing.holds l.self.links (chain_of l.first st.chains) (sectors_for l.words) l.j l.from l.tag l.words l.at l.core l.initial.backing l.backing;
  tags : (i : ℕ) → i < 30 * l.j → i < l.words → (w : Tagged) × (slice_get l.core (l.at + i) ≡ Some w) × (w.tag ≡ l.tag);
  low : (i : ℕ) → i < 30 * l.j → i < l.words → (w : Tagged) × (slice_get l.core (l.at + i) ≡ Some w) × (w.bits < 2 ^ 48);
  outside : (i : ℕ) → (i < l.at) ⊎ (l.at + l.words ≤ i) → slice_get l.core i ≡ slice_get l.initial.core i;
  len : length l.core ≡ length l.initial.core;
  same : Becomes g.B.Backing.holds l.initial.backing l.backing (λ all. all);
  size : g.B.Backing.size l.backing ≡ g.B.Backing.size l.initial.backing;
  faults : g.B.Backing.faults l.initial.backing ≤ g.B.Backing.faults l.backing;
  calls : g.B.Backing.calls l.initial.backing ≤ g.B.Backing.calls l.backing;
  rose : 1 ≤ l.j → Rose g.B.Backing.calls l.initial.backing l.backing;
}
