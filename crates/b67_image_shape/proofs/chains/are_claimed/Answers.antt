use Rattle.std.proofs.Common.{◌+◌, arith}
use Rattle.b67_image_shape.proofs.ChainTests.{claims_next, not_claimed}
use Rattle.b67_image_shape.proofs.chains.are_claimed.Goals.{else-is_head-via-then-is_head+else-not-claimed-i, else-is_head-via-else-is_head}
use Rattle.b67_image_shape.proofs.chains.are_claimed.Goals as goal

pub each-init : goal.each-init
each-init c = λ n le h. let low = h.low in absurd (omega (arith, le, low))

pub returns-then-not-claimed-i-clause-not : goal.returns-then-not-claimed-i-clause-not
returns-then-not-claimed-i-clause-not c = not_claimed c.args.links.now c.args.claimed.now (c.each.i + 1) c.if-is_head.ensures.yes c.if-not-claimed-i.true

pub each-preserved : goal.each-preserved
each-preserved c = elim c.else-is_head.branch [
  | else-is_head-via-then-is_head+else-not-claimed-i w ↦ claims_next c.args.links.now c.args.claimed.now c.each.i c.each.invariant (λ h. w.if-not-claimed-i.false)
  | else-is_head-via-else-is_head w ↦ claims_next c.args.links.now c.args.claimed.now c.each.i c.each.invariant (λ h. absurd (w.if-is_head.ensures.not h))
]

pub returns-clause-yes : goal.returns-clause-yes
returns-clause-yes c = λ n h. let high = h.high in c.each.invariant n (omega (arith, high, c.each-test.false)) h
