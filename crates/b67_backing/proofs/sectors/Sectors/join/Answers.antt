use Rattle.std.proofs.Common.{subst, sym}
use Rattle.b67_backing.specs.Shelf.{Table, IsShelf, chains_joined}
use Rattle.b67_backing.proofs.Joins.{joins}
use Rattle.b67_backing.proofs.sectors.Sectors.join.Goals as goal

pub invariant_of-self : goal.invariant_of-self
invariant_of-self c =
    let (st, s, has, more) = c.requires.chains in
    (chains_joined c.args.first c.args.more st, rw ((c.last_of-tail.ensures.value st s has).0) (joins c.self.inside.links.items c.args.first c.args.more st c.self.inside.free (subst (λ (t : Table). IsShelf t st) (sym c.self.view_is) s) c.requires.apart has more))

pub returns-clause-row : goal.returns-clause-row
returns-clause-row c = λ st s has more.
    rw ((c.last_of-tail.ensures.value st s has).0) (joins c.self.inside.links.items c.args.first c.args.more st c.self.inside.free (subst (λ (t : Table). IsShelf t st) (sym c.self.view_is) s) c.requires.apart has more)
