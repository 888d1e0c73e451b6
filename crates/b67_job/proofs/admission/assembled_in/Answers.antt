use Rattle.b67_job.proofs.Bound.{assembled_codefile}
use Rattle.b67_job.proofs.admission.assembled_in.Goals as goal

pub returns-in-Ok-clause-file : goal.returns-in-Ok-clause-file
returns-in-Ok-clause-file c = assembled_codefile c.args.cards.now c.in-Ok.file c.in-Ok.ensures.0 c.in-Ok.ensures.1 c.in-Ok.ensures.2
