use Rattle.b67_job.proofs.Judged.{checked_text, not_loaded}
use Rattle.b67_job.proofs.check.check_text.Goals as goal

pub returns-in-Ok-text_of-clause-answer : goal.returns-in-Ok-text_of-clause-answer
returns-in-Ok-text_of-clause-answer g c =
    let h = c.in-Ok.ensures.answer in
    (h.0, h.1, checked_text h.0 c.in-Ok.loaded _ _ _ h.2 c.as_slice.ensures c.as_slice-in-Ok.ensures c.in-Ok-text_of.ensures)

pub returns-clause-answer : goal.returns-clause-answer
returns-clause-answer g c = not_loaded g.S.Source.left g.S.Source.faults c.args.source.now c.admit.new.source c.in-Err.fault c.in-Err.ensures.answer
