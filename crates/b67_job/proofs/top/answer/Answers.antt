use Rattle.std.proofs.Common.{sym, ap, ◌∙◌, refl, Some}
use Rattle.std.proofs.lemmas.Bool.{false≢true}
use Rattle.b67_job.specs.Judgement.{reads_text}
use Rattle.std.specs.Prelude.{is_some}
use Rattle.b67_job.specs.Verdicts.{asm_verdict, bind_verdict, check_verdict, convert_verdict}
use Rattle.b67_session.proofs.InitialOpens.{uncalled}
use Rattle.b67_job.specs.Device.{device_of}
use Rattle.b67_job.specs.Texts.{only}
use Rattle.b67_job.specs.declared.command.CommandLine.TheVariants as lines
use Rattle.b67_job.specs.Due.{answered, usage_due, usage_text}
use Rattle.b67_job.proofs.Ran.{closes_only}
use Rattle.b67_job.proofs.Served.{served_text, without, exercised}
use Rattle.b67_job.proofs.Going.{served_dump}
use Rattle.b67_job.proofs.top.answer.Goals as goal

pub returns-in-Some-Run-clause-answered : goal.returns-in-Some-Run-clause-answered
returns-in-Some-Run-clause-answered g c =
    c.answer_run.ensures.serves (lines.Run c.in-Some-Run.core) (record { reads = refl; opens = refl; asks = λ text. refl; closes = refl })
    c.args.words.now (sym c.command_of.ensures.command ∙ c.in-Some-Run.is ∙ ap (λ x. Some x) c.in-Some-Run.field-0-is)

pub returns-in-Some-Image-clause-answered : goal.returns-in-Some-Image-clause-answered
returns-in-Some-Image-clause-answered g c =
    c.answer_run-in-Some-Image.ensures.serves (lines.Image c.in-Some-Image.core) (record { reads = refl; opens = refl; asks = λ text. refl; closes = refl })
    c.args.words.now (sym c.command_of.ensures.command ∙ c.in-Some-Image.is ∙ ap (λ x. Some x) c.in-Some-Image.field-0-is)

pub returns-in-Some-Resume-clause-answered : goal.returns-in-Some-Resume-clause-answered
returns-in-Some-Resume-clause-answered g c = c.answer_resume.ensures.serves c.args.words.now (sym c.command_of.ensures.command ∙ c.in-Some-Resume.is ∙ ap (λ x. Some x) c.in-Some-Resume.field-0-is)

pub returns-in-Some-Dump-clause-answered : goal.returns-in-Some-Dump-clause-answered
returns-in-Some-Dump-clause-answered g c =
    let d = device_of g.B.Backing.holds g.B.Backing.size g.B.Backing.faults c.args.backing.now c.args.backing.now in
    without c.args.words.now g.S.Source.left g.S.Source.faults c.args.deck.now c.answer_dump.new.deck d g.K.Sink.taken g.K.Sink.faults c.args.printer.now c.answer_dump.new.printer
    c.without_machine.result.machine c.without_machine.result.status c.answer_dump.result c.without_machine.ensures.machine c.without_machine.ensures.status
    (served_dump d c.answer_dump.result refl c.answer_dump.ensures c.args.words.now (sym c.command_of.ensures.command ∙ c.in-Some-Dump.is ∙ ap (λ x. Some x) c.in-Some-Dump.field-0-is))

pub returns-in-Some-Asm-clause-answered : goal.returns-in-Some-Asm-clause-answered
returns-in-Some-Asm-clause-answered g c =
    let d = device_of g.B.Backing.holds g.B.Backing.size g.B.Backing.faults c.args.backing.now c.args.backing.now in
    without c.args.words.now g.S.Source.left g.S.Source.faults c.args.deck.now c.answer_asm.new.deck d g.K.Sink.taken g.K.Sink.faults c.args.printer.now c.answer_asm.new.printer
    c.without_machine-in-Some-Asm.result.machine c.without_machine-in-Some-Asm.result.status c.answer_asm.result c.without_machine-in-Some-Asm.ensures.machine c.without_machine-in-Some-Asm.ensures.status
    (served_text d lines.Asm asm_verdict c.answer_asm.result refl refl (λ bytes. refl) c.answer_asm.ensures c.args.words.now (sym c.command_of.ensures.command ∙ c.in-Some-Asm.is ∙ ap (λ x. Some x) c.in-Some-Asm.field-0-is))

pub returns-in-Some-Check-clause-answered : goal.returns-in-Some-Check-clause-answered
returns-in-Some-Check-clause-answered g c =
    let d = device_of g.B.Backing.holds g.B.Backing.size g.B.Backing.faults c.args.backing.now c.args.backing.now in
    without c.args.words.now g.S.Source.left g.S.Source.faults c.args.deck.now c.answer_check.new.deck d g.K.Sink.taken g.K.Sink.faults c.args.printer.now c.answer_check.new.printer
    c.without_machine-in-Some-Check.result.machine c.without_machine-in-Some-Check.result.status c.answer_check.result c.without_machine-in-Some-Check.ensures.machine c.without_machine-in-Some-Check.ensures.status
    (served_text d lines.Check check_verdict c.answer_check.result refl refl (λ bytes. refl) c.answer_check.ensures c.args.words.now (sym c.command_of.ensures.command ∙ c.in-Some-Check.is ∙ ap (λ x. Some x) c.in-Some-Check.field-0-is))

pub returns-in-Some-Convert-clause-answered : goal.returns-in-Some-Convert-clause-answered
returns-in-Some-Convert-clause-answered g c =
    let d = device_of g.B.Backing.holds g.B.Backing.size g.B.Backing.faults c.args.backing.now c.args.backing.now in
    without c.args.words.now g.S.Source.left g.S.Source.faults c.args.deck.now c.answer_convert.new.deck d g.K.Sink.taken g.K.Sink.faults c.args.printer.now c.answer_convert.new.printer
    c.without_machine-in-Some-Convert.result.machine c.without_machine-in-Some-Convert.result.status c.answer_convert.result c.without_machine-in-Some-Convert.ensures.machine c.without_machine-in-Some-Convert.ensures.status
    (served_text d lines.Convert convert_verdict c.answer_convert.result refl refl (λ bytes. refl) c.answer_convert.ensures c.args.words.now (sym c.command_of.ensures.command ∙ c.in-Some-Convert.is ∙ ap (λ x. Some x) c.in-Some-Convert.field-0-is))

pub returns-in-Some-Bind-clause-answered : goal.returns-in-Some-Bind-clause-answered
returns-in-Some-Bind-clause-answered g c =
    let d = device_of g.B.Backing.holds g.B.Backing.size g.B.Backing.faults c.args.backing.now c.args.backing.now in
    without c.args.words.now g.S.Source.left g.S.Source.faults c.args.deck.now c.answer_bind.new.deck d g.K.Sink.taken g.K.Sink.faults c.args.printer.now c.answer_bind.new.printer
    c.without_machine-in-Some-Bind.result.machine c.without_machine-in-Some-Bind.result.status c.answer_bind.result c.without_machine-in-Some-Bind.ensures.machine c.without_machine-in-Some-Bind.ensures.status
    (served_text d (lines.Bind c.in-Some-Bind.pairs) (bind_verdict c.in-Some-Bind.pairs) c.answer_bind.result refl refl (λ bytes. refl) c.answer_bind.ensures c.args.words.now (sym c.command_of.ensures.command ∙ c.in-Some-Bind.is ∙ ap (λ x. Some x) c.in-Some-Bind.field-0-is))

pub returns-in-Some-Exercise-clause-answered : goal.returns-in-Some-Exercise-clause-answered
returns-in-Some-Exercise-clause-answered g c =
    exercised c.args.words.now g.S.Source.left g.S.Source.faults c.args.deck.now c.in-Some-Exercise.seed c.in-Some-Exercise.size c.in-Some-Exercise.core
    (device_of g.B.Backing.holds g.B.Backing.size g.B.Backing.faults c.args.backing.now c.answer_exercise.new.backing) c.answer_exercise.result.machine g.K.Sink.taken g.K.Sink.faults c.args.printer.now c.answer_exercise.new.printer
    c.answer_exercise.result.status (sym c.command_of.ensures.command ∙ c.in-Some-Exercise.is ∙ ap (λ x. Some x) c.in-Some-Exercise.field-0-is) c.answer_exercise.ensures.ends

pub returns-in-None-clause-answered : goal.returns-in-None-clause-answered
returns-in-None-clause-answered g c =
    let d = device_of g.B.Backing.holds g.B.Backing.size g.B.Backing.faults c.args.backing.now c.args.backing.now in
    without c.args.words.now g.S.Source.left g.S.Source.faults c.args.deck.now c.args.deck.now d g.K.Sink.taken g.K.Sink.faults c.args.printer.now c.say.new.printer
    c.without_machine-in-None.result.machine c.without_machine-in-None.result.status c.say.result c.without_machine-in-None.ensures.machine c.without_machine-in-None.ensures.status
    (answered 1 (only usage_text) (usage_due (ap is_some (sym c.command_of.ensures.command ∙ c.in-None.is)) refl refl refl refl refl) (closes_only (rw c.line_of.ensures at c.say.ensures)))

pub returns-in-Some-Dump-clause-device : goal.returns-in-Some-Dump-clause-device
returns-in-Some-Dump-clause-device g c = uncalled g.B.Backing.holds g.B.Backing.size g.B.Backing.calls g.B.Backing.faults c.args.backing.now

pub returns-in-Some-Asm-clause-device : goal.returns-in-Some-Asm-clause-device
returns-in-Some-Asm-clause-device g c = uncalled g.B.Backing.holds g.B.Backing.size g.B.Backing.calls g.B.Backing.faults c.args.backing.now

pub returns-in-Some-Check-clause-device : goal.returns-in-Some-Check-clause-device
returns-in-Some-Check-clause-device g c = uncalled g.B.Backing.holds g.B.Backing.size g.B.Backing.calls g.B.Backing.faults c.args.backing.now

pub returns-in-Some-Convert-clause-device : goal.returns-in-Some-Convert-clause-device
returns-in-Some-Convert-clause-device g c = uncalled g.B.Backing.holds g.B.Backing.size g.B.Backing.calls g.B.Backing.faults c.args.backing.now

pub returns-in-Some-Bind-clause-device : goal.returns-in-Some-Bind-clause-device
returns-in-Some-Bind-clause-device g c = uncalled g.B.Backing.holds g.B.Backing.size g.B.Backing.calls g.B.Backing.faults c.args.backing.now

pub returns-in-None-clause-device : goal.returns-in-None-clause-device
returns-in-None-clause-device g c = uncalled g.B.Backing.holds g.B.Backing.size g.B.Backing.calls g.B.Backing.faults c.args.backing.now

pub returns-in-Some-Run-clause-unread : goal.returns-in-Some-Run-clause-unread
returns-in-Some-Run-clause-unread g c = λ e. absurd (false≢true (sym e ∙ ap reads_text (sym c.command_of.ensures.command ∙ c.in-Some-Run.is ∙ ap (λ x. Some x) c.in-Some-Run.field-0-is)))

pub returns-in-Some-Image-clause-unread : goal.returns-in-Some-Image-clause-unread
returns-in-Some-Image-clause-unread g c = λ e. absurd (false≢true (sym e ∙ ap reads_text (sym c.command_of.ensures.command ∙ c.in-Some-Image.is ∙ ap (λ x. Some x) c.in-Some-Image.field-0-is)))

pub returns-in-Some-Resume-clause-unread : goal.returns-in-Some-Resume-clause-unread
returns-in-Some-Resume-clause-unread g c = λ e. absurd (false≢true (sym e ∙ ap reads_text (sym c.command_of.ensures.command ∙ c.in-Some-Resume.is ∙ ap (λ x. Some x) c.in-Some-Resume.field-0-is)))

pub returns-in-Some-Dump-clause-unread : goal.returns-in-Some-Dump-clause-unread
returns-in-Some-Dump-clause-unread g c = λ e. absurd (false≢true (sym e ∙ ap reads_text (sym c.command_of.ensures.command ∙ c.in-Some-Dump.is ∙ ap (λ x. Some x) c.in-Some-Dump.field-0-is)))

pub returns-in-Some-Asm-clause-unread : goal.returns-in-Some-Asm-clause-unread
returns-in-Some-Asm-clause-unread g c = λ e. absurd (false≢true (sym e ∙ ap reads_text (sym c.command_of.ensures.command ∙ c.in-Some-Asm.is ∙ ap (λ x. Some x) c.in-Some-Asm.field-0-is)))

pub returns-in-Some-Check-clause-unread : goal.returns-in-Some-Check-clause-unread
returns-in-Some-Check-clause-unread g c = λ e. absurd (false≢true (sym e ∙ ap reads_text (sym c.command_of.ensures.command ∙ c.in-Some-Check.is ∙ ap (λ x. Some x) c.in-Some-Check.field-0-is)))

pub returns-in-Some-Convert-clause-unread : goal.returns-in-Some-Convert-clause-unread
returns-in-Some-Convert-clause-unread g c = λ e. absurd (false≢true (sym e ∙ ap reads_text (sym c.command_of.ensures.command ∙ c.in-Some-Convert.is ∙ ap (λ x. Some x) c.in-Some-Convert.field-0-is)))

pub returns-in-Some-Bind-clause-unread : goal.returns-in-Some-Bind-clause-unread
returns-in-Some-Bind-clause-unread g c = λ e. absurd (false≢true (sym e ∙ ap reads_text (sym c.command_of.ensures.command ∙ c.in-Some-Bind.is ∙ ap (λ x. Some x) c.in-Some-Bind.field-0-is)))
