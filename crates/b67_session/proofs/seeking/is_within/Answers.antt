use Rattle.std.proofs.Common.{arith}
use Rattle.b67_session.proofs.seeking.is_within.Goals as goal

pub returns-clause-holds : goal.returns-clause-holds
returns-clause-holds c = λ x told plan s m t w e.
    let high = c.heights_of.ensures x told plan s m t w in
    (c.if-chosen-job.false, c.if-chosen-number.false, omega (arith, high.1))

pub returns-then-heights_of-height-clause-fails : goal.returns-then-heights_of-height-clause-fails
returns-then-heights_of-height-clause-fails c = λ x told plan s m t w e job number low.
    let high = c.heights_of.ensures x told plan s m t w in
    omega (arith, high.1, low)
