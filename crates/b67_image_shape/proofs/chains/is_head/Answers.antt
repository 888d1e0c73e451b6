use Rattle.std.proofs.Common.{arith}
use Rattle.b67_image_shape.proofs.ChainTests.{head_is, no_head}
use Rattle.std.proofs.lemmas.Bool.{OnTrue_from, OnFalse_from, not-true, not-false}
use Rattle.b67_image_shape.proofs.chains.is_head.Goals as goal

pub returns-then-n-eq0-clause-not : goal.returns-then-n-eq0-clause-not
returns-then-n-eq0-clause-not c = λ h. let low = h.low in omega (arith, low, c.if-n-eq0.true)

pub returns-then-n-links-clause-not : goal.returns-then-n-links-clause-not
returns-then-n-links-clause-not c = λ h. let high = h.high in omega (arith, high, c.if-n-links.true)

pub returns-then-links-n-eq0-clause-not : goal.returns-then-links-n-eq0-clause-not
returns-then-links-n-eq0-clause-not c = λ h. h.linked c.if-links-n-eq0.true

pub returns-clause-yes : goal.returns-clause-yes
returns-clause-yes c = OnTrue_from _ _ (λ e. head_is c.args.links.now c.args.led.now c.args.n c.requires.led c.if-n-eq0.false (omega (arith, c.if-n-links.false)) c.if-links-n-eq0.false (not-true _ e))

pub returns-clause-not : goal.returns-clause-not
returns-clause-not c = OnFalse_from _ _ (λ e. no_head c.args.links.now c.args.led.now c.args.n c.requires.led (not-false _ e))
