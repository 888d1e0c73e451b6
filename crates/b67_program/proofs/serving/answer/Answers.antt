use Rattle.std.proofs.Common.{Err, refl, subst}
use Rattle.b67_program.specs.Input.{IsTakenIn}
use Rattle.b67_program.specs.declared.reading.InputFault.{InputFault}
use Rattle.b67_program.proofs.Answering.{unread_of, failed_of, carried, failed, wanted, seven, not_seven}
use Rattle.b67_program.proofs.serving.answer.Goals as goal

pub returns-in-Ok-clause-answered : goal.returns-in-Ok-clause-answered
returns-in-Ok-clause-answered g c = carried c.text_limit.result c.in-Ok.bytes c.text_limit.ensures.limit c.in-Ok.ensures c.carry_out.ensures

pub returns-in-Ok-clause-unread : goal.returns-in-Ok-clause-unread
returns-in-Ok-clause-unread g c = λ e. unread_of _ _ _ _ _ _ c.text_limit.ensures.limit _ c.in-Ok.ensures e

pub returns-in-Ok-clause-reading : goal.returns-in-Ok-clause-reading
returns-in-Ok-clause-reading g c = λ e. seven (carried c.text_limit.result c.in-Ok.bytes c.text_limit.ensures.limit c.in-Ok.ensures c.carry_out.ensures) e

pub returns-in-Err-SourceFault-clause-answered : goal.returns-in-Err-SourceFault-clause-answered
returns-in-Err-SourceFault-clause-answered g c = failed c.text_limit.result c.text_limit.ensures.limit (subst (λ (f : InputFault). IsTakenIn c.text_limit.result g.S.Source.left g.S.Source.faults c.args.input.now c.take_in.new.input (Err f)) c.in-Err-SourceFault.field-0-is c.in-Err-SourceFault.ensures) refl c.say_reading_fault.ensures

pub returns-in-Err-SourceFault-clause-unread : goal.returns-in-Err-SourceFault-clause-unread
returns-in-Err-SourceFault-clause-unread g c = λ e. unread_of _ _ _ _ _ _ c.text_limit.ensures.limit _ c.in-Err-SourceFault.ensures e

pub returns-in-Err-SourceFault-clause-reading : goal.returns-in-Err-SourceFault-clause-reading
returns-in-Err-SourceFault-clause-reading g c = λ e. (failed_of _ g.S.Source.left g.S.Source.faults c.args.input.now c.take_in.new.input _ c.text_limit.ensures.limit (subst (λ (f : InputFault). IsTakenIn c.text_limit.result g.S.Source.left g.S.Source.faults c.args.input.now c.take_in.new.input (Err f)) c.in-Err-SourceFault.field-0-is c.in-Err-SourceFault.ensures)).1

pub returns-in-Err-Memory-clause-answered : goal.returns-in-Err-Memory-clause-answered
returns-in-Err-Memory-clause-answered g c = wanted c.text_limit.result c.text_limit.ensures.limit (subst (λ (f : InputFault). IsTakenIn c.text_limit.result g.S.Source.left g.S.Source.faults c.args.input.now c.take_in.new.input (Err f)) c.in-Err-Memory.field-0-is c.in-Err-Memory.ensures) refl c.refuse_memory.ensures.ends

pub returns-in-Err-Memory-clause-unread : goal.returns-in-Err-Memory-clause-unread
returns-in-Err-Memory-clause-unread g c = λ e. unread_of _ _ _ _ _ _ c.text_limit.ensures.limit _ c.in-Err-Memory.ensures e

pub returns-in-Err-Memory-clause-reading : goal.returns-in-Err-Memory-clause-reading
returns-in-Err-Memory-clause-reading g c = λ e. not_seven _ _ _ _ _ _ c.refuse_memory.ensures.ends e
