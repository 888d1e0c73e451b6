use Rattle.b67_job.proofs.Status.{completed}
use Rattle.b67_job.proofs.Causes.{means, is_spared, is_opened, is_paged}
use Rattle.b67_job.proofs.top.run.Goals as goal

pub returns-clause-status : goal.returns-clause-status
returns-clause-status g c = means g.K.Sink.taken g.K.Sink.faults c.args.printer.now c.answer.new.printer c.answer.result.status c.answer.ensures.answered

pub returns-clause-spared : goal.returns-clause-spared
returns-clause-spared g c = is_spared g.K.Sink.taken g.K.Sink.faults c.args.printer.now c.answer.new.printer c.answer.result.status c.answer.ensures.answered

pub returns-clause-opened : goal.returns-clause-opened
returns-clause-opened g c = is_opened g.K.Sink.taken g.K.Sink.faults c.args.printer.now c.answer.new.printer c.answer.result.status c.answer.ensures.answered

pub returns-clause-paged : goal.returns-clause-paged
returns-clause-paged g c = λ k e.
    is_paged (is_opened g.K.Sink.taken g.K.Sink.faults c.args.printer.now c.answer.new.printer c.answer.result.status c.answer.ensures.answered k e)

pub returns-clause-complete : goal.returns-clause-complete
returns-clause-complete g c = λ command bytes is supplies ample calm worked.
    completed g.K.Sink.taken g.K.Sink.faults c.args.printer.now c.answer.new.printer c.answer.result.status command bytes is supplies ample calm worked c.answer.ensures.answered
