use Rattle.b67_job.proofs.top.answer_asm.Goals as goal

pub returns : goal.returns
returns g c = (c.asm_text-text.result, c.asm_text-text.ensures.answer, c.answer_text.ensures)
