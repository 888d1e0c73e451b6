use Rattle.std.proofs.Common.{◌≡◌, ◌<◌, take, length}
use Rattle.b67_backing.specs.Shelf.{Shelf, IsShelf, last}
use Rattle.b67_backing.proofs.sectors.Sectors.nth.Given as goal

abbrev pub invariant-loop-i : goal.invariant-loop-i
invariant-loop-i l = ((st : Shelf) → IsShelf l.self st → l.at ≡ last 0 (take l._i st.free)) × (l.at < length l.self.links)
