use Rattle.std.proofs.Common.{◌≡◌, ◌+◌, ◌-◌, ◌<◌, ℕ, true, false, cond, get_or, nat_lt, length, take}
use Rattle.b67_backing.specs.Shelf.{Shelf, IsShelf, last, times}
use Rattle.b67_backing.specs.Links.{walk}
use Rattle.b67_backing.proofs.sectors.Sectors.mark_free.Given as goal

abbrev pub invariant-free : goal.invariant-free
invariant-free l = record {
  marks : (i : ℕ) → i < length l.marks → nat_lt 0 (times (l.first + i) (walk l.self.links l.self.free 0)) ≡ cond (get_or l.marks i false) true (nat_lt 0 (times (l.first + i) (walk l.self.links (l.self.free - l._i) l.at)));
  many : length l.marks ≡ length l.initial.marks;
  stands : (st : Shelf) → IsShelf l.self st → l.at ≡ last 0 (take l._i st.free);
  inside : l.at < length l.self.links;
}
