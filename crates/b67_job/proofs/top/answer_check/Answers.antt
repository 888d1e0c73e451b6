use Rattle.b67_job.proofs.top.answer_check.Goals as goal

pub returns : goal.returns
returns g c = (c.check_text-text.result, c.check_text-text.ensures.answer, c.answer_text.ensures)
