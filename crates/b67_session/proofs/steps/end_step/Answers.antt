use Rattle.std.proofs.Common.{Ok, Err, refl}
use Rattle.b67_session.proofs.steps.end_step.Goals as goal

pub returns-in-Ok-clause-finishes : goal.returns-in-Ok-clause-finishes
returns-in-Ok-clause-finishes g c = λ x told plan h o stands. record { result = Ok tt; finishes = c.in-Ok.ensures.finishes x told plan h o stands; answer = refl }

pub returns-in-Err-clause-finishes : goal.returns-in-Err-clause-finishes
returns-in-Err-clause-finishes g c = λ x told plan h o stands. record { result = Err c.in-Err._failed; finishes = c.in-Err.ensures.finishes x told plan h o stands; answer = refl }
