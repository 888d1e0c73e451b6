use Rattle.b67_recorded.proofs.Passing.{gave_none}
use Rattle.b67_recorded.proofs.serving.take_text.Goals as goal

pub returns-in-None-clause-faithful : goal.returns-in-None-clause-faithful
returns-in-None-clause-faithful g c = gave_none g.R.Read.remaining c.args.input.now
