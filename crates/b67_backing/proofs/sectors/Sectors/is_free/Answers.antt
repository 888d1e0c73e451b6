use Rattle.std.proofs.Common.{◌≡◌, ◌<◌, ℕ, get_or, length, refl, sym, ap, subst, arith}
use Rattle.b67_backing.specs.Shelf.{Table, IsShelf, times}
use Rattle.b67_backing.specs.Links.{walk}
use Rattle.b67_backing.proofs.Walks.{nth_step}
use Rattle.b67_backing.proofs.Linkings.{get_is, walk_past, walk_met, walk_over}
use Rattle.b67_backing.proofs.sectors.Sectors.is_free.Goals as goal

pub free-init : goal.free-init
free-init c = record {
  walks = ap (λ (k : ℕ). times c.args.n (walk c.args.self.now.links k 0)) (omega arith);
  stands = λ st s. refl;
  inside = omega (arith, c.self.invariant.1.some, ap (λ (t : Table). length t.links) c.self.view_is);
}

pub free-preserved : goal.free-preserved
free-preserved c =
    let v : c.follow-at.result ≡ get_or c.args.self.now.links c.free.at 0 = sym (get_is c.args.self.now.links c.free.at c.follow-at.result c.follow-at.ensures) in
    let lt : c.free._i < c.args.self.now.free = omega (arith, c.free-test.true, ap (λ (t : Table). t.free) c.self.view_is) in
    let s0 = subst (λ (t : Table). IsShelf t c.self.invariant.0) c.self.view_is c.self.invariant.1 in
    record {
      walks = walk_past c.args.self.now.links c.args.n c.free.at c.follow-at.result c.args.self.now.free c.free._i _ lt v c.if-at-n.false c.free.invariant.walks;
      stands = λ st s. (nth_step c.args.self.now st c.free.at c.free._i c.follow-at.result s lt (c.free.invariant.stands st s) c.follow-at.ensures).0;
      inside = (nth_step c.args.self.now c.self.invariant.0 c.free.at c.free._i c.follow-at.result s0 lt (c.free.invariant.stands c.self.invariant.0 s0) c.follow-at.ensures).1;
    }

pub returns-then-at-n : goal.returns-then-at-n
returns-then-at-n c =
    let v : c.follow-at.result ≡ get_or c.args.self.now.links c.free.at 0 = sym (get_is c.args.self.now.links c.free.at c.follow-at.result c.follow-at.ensures) in
    let lt : c.free._i < c.args.self.now.free = omega (arith, c.free-test.true, ap (λ (t : Table). t.free) c.self.view_is) in
    sym (walk_met c.args.self.now.links c.args.n c.free.at c.follow-at.result c.args.self.now.free c.free._i _ lt v c.if-at-n.true c.free.invariant.walks)

pub returns : goal.returns
returns c =
    sym (walk_over c.args.self.now.links c.args.n c.free.at c.args.self.now.free c.free._i _ (omega (arith, c.free-test.false, ap (λ (t : Table). t.free) c.self.view_is)) c.free.invariant.walks)
