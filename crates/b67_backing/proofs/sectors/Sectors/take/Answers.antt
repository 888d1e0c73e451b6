use Rattle.std.proofs.Common.{◌≡◌, ◌∙◌, arith, subst, sym, ap, slice_set, ◌-◌}
use Rattle.std.specs.List.{slice_get}
use Rattle.std.proofs.lemmas.Option.{same_Some}
use Rattle.b67_backing.specs.Shelf.{Table, Shelf, IsShelf, first, taken}
use Rattle.b67_backing.proofs.Links.{link_first}
use Rattle.b67_backing.proofs.News.{chain_of-taken, has_taken}
use Rattle.b67_backing.proofs.Takes.{took}
use Rattle.b67_backing.proofs.sectors.Sectors.take.Goals.{After-self-3-1}
use Rattle.b67_backing.proofs.sectors.Sectors.take.Goals as goal

pub nth-last-requires : goal.nth-last-requires
nth-last-requires c =
    let free : c.self.inside.free ≡ c.args.self.now.free = ap (λ (t : Table). t.free) c.self.view_is in
    (c.self.invariant.0, subst (λ (t : Table). IsShelf t c.self.invariant.0) c.self.view_is c.self.invariant.1, omega arith)

-- the sectors after the call, over the fields as they were
took_here : (c : After-self-3-1) (st : Shelf) → IsShelf (record { links = c.self.inside.links.items; free = c.self.inside.free }) st → IsShelf (record { links = slice_set (slice_set c.self.inside.links.items 0 c.follow.result) c.nth-last.result 0; free = c.self.inside.free - c.args.n }) (taken c.args.n st)
took_here c st s =
    let t = subst (λ (t : Table). IsShelf t st) c.self.view_is s in
    took (record { links = c.self.inside.links.items; free = c.self.inside.free }) st c.args.n c.nth-last.result c.follow.result s c.requires (omega arith) (c.nth-last.ensures.value st t) (ap (λ (t : Table). slice_get t.links c.nth-last.result) c.self.view_is ∙ c.follow.ensures)

pub invariant_of-self : goal.invariant_of-self
invariant_of-self c = (taken c.args.n c.self.invariant.0, took_here c c.self.invariant.0 c.self.invariant.1)

pub returns-clause-row : goal.returns-clause-row
returns-clause-row c = λ st s.
    let t = subst (λ (t : Table). IsShelf t st) (sym c.self.view_is) s in (
      omega (arith, t.count),
      same_Some c.follow-first.result (first st.free) (sym c.follow-first.ensures ∙ link_first c.args.self.now.links 0 st.free s.free),
      took_here c st t,
    )

pub returns-clause-chains : goal.returns-clause-chains
returns-clause-chains c = λ st y s.
    chain_of-taken c.args.n c.follow-first.result y st c.requires (same_Some c.follow-first.result (first st.free) (sym c.follow-first.ensures ∙ link_first c.args.self.now.links 0 st.free s.free))

pub returns-clause-chain : goal.returns-clause-chain
returns-clause-chain c = λ st s.
    let t = subst (λ (t : Table). IsShelf t st) (sym c.self.view_is) s in
    has_taken _ c.args.n c.follow-first.result st c.requires (omega (arith, t.count)) (same_Some c.follow-first.result (first st.free) (sym c.follow-first.ensures ∙ link_first c.args.self.now.links 0 st.free s.free)) (took_here c st t)
