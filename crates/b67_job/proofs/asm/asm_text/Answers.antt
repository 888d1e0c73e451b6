use Rattle.b67_job.proofs.Judged.{assembled_cards, first_of_all, not_read}
use Rattle.b67_job.proofs.asm.asm_text.Goals as goal

pub returns-in-Ok-assembled_text-clause-answer : goal.returns-in-Ok-assembled_text-clause-answer
returns-in-Ok-assembled_text-clause-answer g c =
    let h = c.in-Ok.ensures.answer in
    (h.0, h.1, assembled_cards h.0 c.in-Ok.cards _ h.2 c.in-Ok-assembled_text.ensures)

pub returns-in-Err-Refused-clause-answer : goal.returns-in-Err-Refused-clause-answer
returns-in-Err-Refused-clause-answer g c =
    let h = c.in-Ok.ensures.answer in
    let e = rw c.in-Err-Refused.field-0-is at c.in-Err-Refused.ensures in
    (h.0, first_of_all _ _ _ h.0 c.in-Ok.cards h.2 h.1, assembled_cards h.0 c.in-Ok.cards _ h.2 e)

pub returns-clause-answer : goal.returns-clause-answer
returns-clause-answer g c = rw c.deck_fault.ensures (not_read g.S.Source.left g.S.Source.faults c.args.source.now c.read_cards.new.source c.in-Err.fault c.in-Err.ensures.answer)
