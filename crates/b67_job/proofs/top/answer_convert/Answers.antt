use Rattle.b67_job.proofs.top.answer_convert.Goals as goal

pub returns : goal.returns
returns g c = (c.convert_text-text.result, c.convert_text-text.ensures.answer, c.answer_text.ensures)
