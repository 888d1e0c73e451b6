use Rattle.std.proofs.Common.{◌≡◌, ◌≤◌, take, length}
use Rattle.b67_backing.specs.Shelf.{Shelf, IsShelf, last, chain_of}
use Rattle.b67_backing.proofs.Links.{rest}
use Rattle.b67_backing.proofs.sectors.Sectors.last_of.Given as goal

abbrev pub invariant-loop-i : goal.invariant-loop-i
invariant-loop-i l = (st : Shelf) → IsShelf l.self st → 1 ≤ length (chain_of l.first st.chains)
    → (l.i ≤ length (rest (chain_of l.first st.chains))) × (l.at ≡ last l.first (take l.i (rest (chain_of l.first st.chains))))
