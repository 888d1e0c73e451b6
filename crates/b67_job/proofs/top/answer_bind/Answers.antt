use Rattle.b67_job.proofs.top.answer_bind.Goals as goal

pub returns : goal.returns
returns g c = (c.bind_text-text.result, c.bind_text-text.ensures.answer, c.answer_text.ensures)
