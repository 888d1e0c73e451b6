use Rattle.std.proofs.Common.{ap, sym, ◌∙◌}
use Rattle.b67_job.specs.Verdicts.{converted_of}
use Rattle.b67_job.proofs.Judged.{converted_cards, first_of_hexadecimal, not_read_hexadecimal}
use Rattle.b67_job.proofs.convert.convert_text.Goals as goal

pub returns-in-Ok-converted_text-clause-answer : goal.returns-in-Ok-converted_text-clause-answer
returns-in-Ok-converted_text-clause-answer g c =
    let h = c.in-Ok.ensures.answer in
    (h.0, h.1, converted_cards h.0 c.in-Ok.cards _ h.2 (ap converted_of (sym c.as_slice.ensures) ∙ c.in-Ok-converted_text.ensures))

pub returns-in-Err-Refused-clause-answer : goal.returns-in-Err-Refused-clause-answer
returns-in-Err-Refused-clause-answer g c =
    let h = c.in-Ok.ensures.answer in
    let e = rw c.in-Err-Refused.field-0-is at c.in-Err-Refused.ensures in
    (h.0, first_of_hexadecimal _ _ _ h.0 c.in-Ok.cards h.2 h.1, converted_cards h.0 c.in-Ok.cards _ h.2 (ap converted_of (sym c.as_slice.ensures) ∙ e))

pub returns-clause-answer : goal.returns-clause-answer
returns-clause-answer g c = rw c.deck_fault.ensures (not_read_hexadecimal g.S.Source.left g.S.Source.faults c.args.source.now c.read_hexadecimal.new.source c.in-Err.fault c.in-Err.ensures.answer)
