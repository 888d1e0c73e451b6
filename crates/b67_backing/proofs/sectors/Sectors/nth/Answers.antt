use Rattle.std.proofs.Common.{arith, refl}
use Rattle.b67_backing.proofs.Walks.{nth_step}
use Rattle.b67_backing.proofs.sectors.Sectors.nth.Goals as goal

pub loop-i-init : goal.loop-i-init
loop-i-init c = (λ st s. refl, omega (arith, c.requires.1.some))

pub loop-i-preserved : goal.loop-i-preserved
loop-i-preserved c =
    let (st, s, low) = c.requires in (
      λ st s. (nth_step c.args.self.now st c.loop-i.at c.loop-i._i c.follow-at.result s (omega arith) (c.loop-i.invariant.0 st s) c.follow-at.ensures).0,
      (nth_step c.args.self.now st c.loop-i.at c.loop-i._i c.follow-at.result s (omega arith) (c.loop-i.invariant.0 st s) c.follow-at.ensures).1,
    )
