use Rattle.std.proofs.Common.{ℕ, refl, subst, Option, Ok, ◌∙◌}
use Rattle.b67_job.specs.Command.{command_line_of}
use Rattle.b67_job.specs.Judgement.{text_limit}
use Rattle.b67_recorded.specs.Given.{WasTextTaken}
use Rattle.b67_recorded.specs.Recorded.{over_text, reading_failed, memory_wanted}
use Rattle.b67_recorded.proofs.Passing.{took_noted}
use Rattle.b67_recorded.proofs.OverFiles.{as_taken}
use Rattle.b67_recorded.proofs.Taking.{failed_of, reads, unlimited}
use Rattle.b67_recorded.proofs.serving.serve_read.Goals as goal

pub returns-in-Ok-clause-served : goal.returns-in-Ok-clause-served
returns-in-Ok-clause-served g c = over_text c.in-Ok.text
    (subst (λ (most : Option ℕ). WasTextTaken most c.args.input.now.given.bytes c.take_text.new.input.given.bytes c.args.input.now.faults c.take_text.new.input.faults c.take_text.new.input.ended (Ok c.in-Ok.text))
    c.text_limit.ensures.limit c.in-Ok.ensures.answer) c.serve_text.ensures.served

pub returns-in-Err-SourceFault-clause-served : goal.returns-in-Err-SourceFault-clause-served
returns-in-Err-SourceFault-clause-served g c =
    reading_failed (reads c.args.input.now.given.bytes c.take_text.new.input.given.bytes c.args.input.now.faults c.take_text.new.input.faults c.take_text.new.input.ended (command_line_of c.args.words.now) c.text_limit.result c.text_limit.ensures.limit _ c.in-Err-SourceFault.ensures.answer) c.take_text.ensures.gave.0 c.take_text.ensures.gave.1
    (failed_of c.args.input.now.given.bytes c.take_text.new.input.given.bytes c.args.input.now.faults c.take_text.new.input.faults c.take_text.new.input.ended c.text_limit.result _ c.in-Err-SourceFault.field-0-is c.in-Err-SourceFault.ensures.answer)
    (record { notes = refl; same = refl }) (rw c.from.ensures c.say_reading_fault.ensures)

pub returns-clause-served : goal.returns-clause-served
returns-clause-served g c =
    memory_wanted c.take_text.ensures.gave.0 c.take_text.ensures.gave.1 (record { notes = refl; same = refl }) (rw c.from-in-Err-Memory.ensures c.refuse_memory.ensures.ends)

pub returns-in-Ok-clause-faithful : goal.returns-in-Ok-clause-faithful
returns-in-Ok-clause-faithful g c = record { read = c.in-Ok.ensures.faithful; printed = took_noted c.args.printer.now c.serve_text.new.printer }

pub returns-in-Err-SourceFault-clause-faithful : goal.returns-in-Err-SourceFault-clause-faithful
returns-in-Err-SourceFault-clause-faithful g c = record { read = c.take_text.ensures.faithful; printed = took_noted c.args.printer.now c.say_reading_fault.new.printer }

pub returns-clause-faithful : goal.returns-clause-faithful
returns-clause-faithful g c = record { read = c.take_text.ensures.faithful; printed = took_noted c.args.printer.now _ }

pub returns-in-Ok-clause-unread : goal.returns-in-Ok-clause-unread
returns-in-Ok-clause-unread g c = λ none. c.in-Ok.ensures.unread (c.text_limit.ensures.limit ∙ unlimited (command_line_of c.args.words.now) none)

pub returns-in-Err-SourceFault-clause-unread : goal.returns-in-Err-SourceFault-clause-unread
returns-in-Err-SourceFault-clause-unread g c = λ none. c.take_text.ensures.unread (c.text_limit.ensures.limit ∙ unlimited (command_line_of c.args.words.now) none)

pub returns-clause-unread : goal.returns-clause-unread
returns-clause-unread g c = λ none. c.take_text.ensures.unread (c.text_limit.ensures.limit ∙ unlimited (command_line_of c.args.words.now) none)

pub serve_text-requires-clause-taken : goal.serve_text-requires-clause-taken
serve_text-requires-clause-taken g c =
    as_taken (text_limit (command_line_of c.args.words.now)) c.args.input.now.given.bytes c.take_text.new.input.given.bytes c.args.input.now.faults c.take_text.new.input.faults c.take_text.new.input.ended c.in-Ok.text
    (subst (λ (most : Option ℕ). WasTextTaken most c.args.input.now.given.bytes c.take_text.new.input.given.bytes c.args.input.now.faults c.take_text.new.input.faults c.take_text.new.input.ended (Ok c.in-Ok.text))
    c.text_limit.ensures.limit c.in-Ok.ensures.answer)
