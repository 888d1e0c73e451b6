use Rattle.std.proofs.Common.{◌≡◌, arith}
use Rattle.b67_backing.specs.Shelf.{all_free}
use Rattle.b67_backing.proofs.News.{news_pushed}
use Rattle.b67_backing.proofs.sectors.Sectors.new.Goals as goal

pub invariant_of-result : goal.invariant_of-result
invariant_of-result c =
    let i : c.loop-i.i ≡ c.args.sectors = omega arith in
    let n = news_pushed c.loop-i.links.items c.push-2.new.self.items c.args.sectors c.in_ok-push-2.ensures.items c.requires.low c.requires.high (omega arith) (λ k h. c.loop-i.invariant.1 k (omega arith)) in
    (all_free c.args.sectors, n.1)

pub returns : goal.returns
returns c =
    let i : c.loop-i.i ≡ c.args.sectors = omega arith in
    news_pushed c.loop-i.links.items c.push-2.new.self.items c.args.sectors c.in_ok-push-2.ensures.items c.requires.low c.requires.high (omega arith) (λ k h. c.loop-i.invariant.1 k (omega arith))
