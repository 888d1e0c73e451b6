use Rattle.std.proofs.Common.{◌≡◌, ◌+◌, ◌<◌, ℕ, get_or, length, nat_lt, refl, sym, ◌∙◌, ap, subst, arith}
use Rattle.std.proofs.lemmas.Bool.{cond-false}
use Rattle.b67_backing.specs.Shelf.{Table, IsShelf, times}
use Rattle.b67_backing.specs.Links.{walk}
use Rattle.b67_backing.proofs.Walks.{nth_step}
use Rattle.b67_backing.proofs.Linkings.{get_is, marked_on, marked_over}
use Rattle.b67_backing.proofs.sectors.Sectors.mark_free.Goals as goal

pub free-init : goal.free-init
free-init c = record {
  marks = λ i lt. ap (λ (k : ℕ). nat_lt 0 (times (c.args.first + i) (walk c.args.self.now.links k 0))) (omega arith) ∙ sym (cond-false _ _ _ (c.clear.ensures.none i));
  many = refl;
  stands = λ st s. refl;
  inside = omega (arith, c.self.invariant.1.some, ap (λ (t : Table). length t.links) c.self.view_is);
}

pub free-preserved : goal.free-preserved
free-preserved c =
    let v : c.follow-at.result ≡ get_or c.args.self.now.links c.free.at 0 = sym (get_is c.args.self.now.links c.free.at c.follow-at.result c.follow-at.ensures) in
    let lt : c.free._i < c.args.self.now.free = omega (arith, c.free-test.true, ap (λ (t : Table). t.free) c.self.view_is) in
    let s0 = subst (λ (t : Table). IsShelf t c.self.invariant.0) c.self.view_is c.self.invariant.1 in
    record {
      marks = λ i low.
          let below : i < length c.free.marks = omega (arith, low, c.mark_within.ensures.length) in
          marked_on c.args.self.now.links (c.args.first + i) c.free.at c.follow-at.result c.args.self.now.free c.free._i _ _ _ lt v (c.mark_within.ensures.each i below) (c.free.invariant.marks i below);
      many = c.mark_within.ensures.length ∙ c.free.invariant.many;
      stands = λ st s. (nth_step c.args.self.now st c.free.at c.free._i c.follow-at.result s lt (c.free.invariant.stands st s) c.follow-at.ensures).0;
      inside = (nth_step c.args.self.now c.self.invariant.0 c.free.at c.free._i c.follow-at.result s0 lt (c.free.invariant.stands c.self.invariant.0 s0) c.follow-at.ensures).1;
    }

pub returns-clause-length : goal.returns-clause-length
returns-clause-length c = c.free.invariant.many ∙ c.clear.ensures.length

pub returns-clause-each : goal.returns-clause-each
returns-clause-each c = λ i lt.
    marked_over c.args.self.now.links (c.args.first + i) c.free.at c.args.self.now.free c.free._i _ _ (omega (arith, c.free-test.false, ap (λ (t : Table). t.free) c.self.view_is)) (c.free.invariant.marks i lt)
