use Rattle.std.proofs.Common.{◌≡◌, ◌-◌, ◌<◌, length, take}
use Rattle.b67_backing.specs.Shelf.{Shelf, IsShelf, last, times}
use Rattle.b67_backing.specs.Links.{walk}
use Rattle.b67_backing.proofs.sectors.Sectors.is_free.Given as goal

abbrev pub invariant-free : goal.invariant-free
invariant-free l = record {
  walks : times l.n (walk l.self.links l.self.free 0) ≡ times l.n (walk l.self.links (l.self.free - l._i) l.at);
  stands : (st : Shelf) → IsShelf l.self st → l.at ≡ last 0 (take l._i st.free);
  inside : l.at < length l.self.links;
}
