use Rattle.std.proofs.Common.{◌∙◌, subst, sym, ap}
use Rattle.std.specs.List.{slice_get}
use Rattle.b67_backing.specs.Shelf.{Table, IsShelf, given}
use Rattle.b67_backing.proofs.Gives.{gave}
use Rattle.b67_backing.proofs.News.{chain_of-given}
use Rattle.b67_backing.proofs.sectors.Sectors.give.Goals as goal

pub invariant_of-self : goal.invariant_of-self
invariant_of-self c =
    let (st, s, has) = c.requires in
    let v = c.last_of-tail.ensures.value st s has in
    (given c.args.first st, gave (record { links = c.self.inside.links.items; free = c.self.inside.free }) st c.args.first c.last_of-tail.result.last c.follow.result c.last_of-tail.result.count (subst (λ (t : Table). IsShelf t st) (sym c.self.view_is) s) has v.0 v.1 (ap (λ (t : Table). slice_get t.links 0) c.self.view_is ∙ c.follow.ensures))

pub returns-clause-row : goal.returns-clause-row
returns-clause-row c = λ st s has.
    let v = c.last_of-tail.ensures.value st s has in
    gave (record { links = c.self.inside.links.items; free = c.self.inside.free }) st c.args.first c.last_of-tail.result.last c.follow.result c.last_of-tail.result.count (subst (λ (t : Table). IsShelf t st) (sym c.self.view_is) s) has v.0 v.1 (ap (λ (t : Table). slice_get t.links 0) c.self.view_is ∙ c.follow.ensures)

pub returns-clause-chains : goal.returns-clause-chains
returns-clause-chains c = λ st x s has. chain_of-given c.args.self.now c.args.first x st s has
