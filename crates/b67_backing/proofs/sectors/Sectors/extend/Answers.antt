use Rattle.std.proofs.Common.{◌≡◌, ◌≢◌, ℕ, ◌-◌, ◌≤◌, List, [], length, take, ap, arith, subst}
use Rattle.b67_backing.specs.Shelf.{Shelf, IsShelf, HasChain, first, taken}
use Rattle.b67_backing.specs.Held.{Changes, SameBut, Stores, sectors_for}
use Rattle.b67_backing.specs.Extending.{extended, sectors_more}
use Rattle.b67_backing.proofs.Extends.{extends, extends_none, free_apart, led_on, given_back, taken_chain, still_chain}
use Rattle.b67_backing.proofs.sectors.Sectors.extend.Given.{Over}
use Rattle.b67_backing.proofs.sectors.Sectors.extend.Goals.{After-fill}
use Rattle.b67_backing.proofs.sectors.Sectors.extend.Goals as goal

pub returns-then-wants-eq0-clause-row : goal.returns-then-wants-eq0-clause-row
returns-then-wants-eq0-clause-row g c = λ st h.
    extends_none g.B.Backing.holds c.args.self.now st c.args.first c.args.have c.args.want c.args.backing.now h c.requires.some c.requires.order (omega (arith, c.if-wants-eq0.true, c.sectors_needed.ensures, c.sectors_needed-2.ensures))

-- the free sectors that are taken
record Taking (g : Over) (c : After-fill g) (st : Shelf) : Type 0 where
  wants : c.sectors_needed.result - c.sectors_needed-2.result ≡ sectors_more c.args.have c.args.want
  some : 1 ≤ c.sectors_needed.result - c.sectors_needed-2.result
  room : c.sectors_needed.result - c.sectors_needed-2.result ≤ length st.free
  more : c.in-Some.more ≡ first st.free
  apart : c.args.first ≢ c.in-Some.more

context : (g : Over) (c : After-fill g) (st : Shelf) → HasChain c.args.self.now st c.args.first (sectors_for c.args.have) → Taking g c st
context g c st h =
    let r = c.in-Some.ensures.row st h.shelf in
    let some : 1 ≤ c.sectors_needed.result - c.sectors_needed-2.result = omega (arith, c.if-wants-eq0.false) in
    record {
      wants = omega (arith, c.sectors_needed.ensures, c.sectors_needed-2.ensures);
      some = some;
      room = r.0;
      more = r.1;
      apart = rw r.1 (free_apart c.args.self.now st c.args.first h.shelf (omega (arith, h.many, c.requires.some)) (omega (arith, some, r.0)));
    }

pub join-requires-clause-apart : goal.join-requires-clause-apart
join-requires-clause-apart g c = let (st, h) = c.requires.chain in (context g (goal.at.join-requires-clause-apart g c).After-fill st h).apart

pub returns-in-Ok-clause-row : goal.returns-in-Ok-clause-row
returns-in-Ok-clause-row g c = λ st h.
    let t = context g (goal.at.returns-in-Ok-clause-row g c).After-fill st h in
    let n = c.sectors_needed.result - c.sectors_needed-2.result in
    let chain = c.in-Some.ensures.chain st h.shelf in
    let stores = c.in-Ok.ensures.stores (taken n st) chain in
    let back = taken_chain n c.in-Some.more st t.some t.more in
    let S : List ℕ → Type 0 = λ k. Changes g.B.Backing.holds c.args.backing.now c.fill.new.backing (Stores k []) in
    let row = c.join.ensures.row (taken n st) chain.shelf (omega (arith, ap length (still_chain n c.args.first c.in-Some.more st t.some t.apart t.more), h.many, c.requires.some)) (omega (arith, chain.many, t.some)) in
    let T : Shelf → Type 0 = λ s. IsShelf c.join.new.self s in
    let led = subst T (led_on n c.args.first c.in-Some.more c.take.new.self st t.some t.apart t.more) row in
    extends g.B.Backing.holds c.args.self.now c.join.new.self st c.args.first c.args.have c.args.want c.args.backing.now c.fill.new.backing h c.requires.some c.requires.order (omega (arith, t.room, t.wants))
    (subst (λ (m : ℕ). IsShelf c.join.new.self (extended c.args.first m st)) t.wants led)
    (subst (λ (m : ℕ). Changes g.B.Backing.holds c.args.backing.now c.fill.new.backing (Stores (take m st.free) [])) t.wants (subst S back stores))

pub returns-in-Err-clause-row : goal.returns-in-Err-clause-row
returns-in-Err-clause-row g c = λ st h.
    let t = context g (goal.at.returns-in-Err-clause-row g c).After-fill st h in
    let n = c.sectors_needed.result - c.sectors_needed-2.result in
    let chain = c.in-Some.ensures.chain st h.shelf in
    let S : List ℕ → Type 0 = λ k. Changes g.B.Backing.holds c.args.backing.now c.fill.new.backing (SameBut k) in
    let back = taken_chain n c.in-Some.more st t.some t.more in
    let row = c.give.ensures.row (taken n st) chain.shelf (omega (arith, chain.many, t.some)) in (
      omega (arith, t.room, t.wants),
      subst (λ (s : Shelf). IsShelf c.give.new.self s) (given_back n c.in-Some.more st t.some t.more) row,
      subst (λ (m : ℕ). Changes g.B.Backing.holds c.args.backing.now c.fill.new.backing (SameBut (take m st.free))) t.wants (subst S back (c.in-Err.ensures.others (taken n st) chain)),
    )
