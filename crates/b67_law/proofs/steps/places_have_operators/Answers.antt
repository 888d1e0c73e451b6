use Rattle.b67_law.proofs.Places.{places_have_operators}
use Rattle.b67_law.proofs.steps.places_have_operators.Goals as goal

pub returns : goal.returns
returns c = places_have_operators
