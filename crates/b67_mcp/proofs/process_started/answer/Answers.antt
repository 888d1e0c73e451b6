use Rattle.std.proofs.Common.{refl, ◌∙◌, ap}
use Rattle.b67_word.specs.Tagged.{word}
use Rattle.b67_model.specs.Words.{Operand}
use Rattle.b67_layout.specs.Meets.{with_job}
use Rattle.b67_mcp.specs.Answered.{job_answered}
use Rattle.b67_mcp.proofs.Standing.{machine_answered, same_size}
use Rattle.b67_mcp.proofs.process_started.answer.Goals as goal

pub answer_call-requires-clause-call : goal.answer_call-requires-clause-call
answer_call-requires-clause-call c =
    let q = c.requires.call.runs in
    record { runs = record { storage = q.storage; plan = q.plan; session = q.session; member = q.member; task = q.task; ordered = q.ordered; stands = q.stands.session; running = q.running }; may = c.requires.call.may }

pub returns-clause-stands : goal.returns-clause-stands
returns-clause-stands c = λ x told plan s m t o h runs may.
    machine_answered plan s m t o runs may c.args.next x told c.args.machine.now h c.answer_call.new.cpu (Operand c.args.number)
    (c.answer_call.ensures.stands x plan s m t o h.session runs c.args.number m.progress.job.numbers may (c.of.ensures ∙ ap (word 0) c.from.ensures))

pub returns-clause-kept : goal.returns-clause-kept
returns-clause-kept c =
    let q = c.requires.call.runs in
    let may = c.requires.call.may in
    let k = c.args.machine.now in
    let m = q.member in
    let now = c.answer_call.ensures.stands q.storage q.plan q.session m q.task q.ordered q.stands.session q.running c.args.number m.progress.job.numbers may (c.of.ensures ∙ ap (word 0) c.from.ensures) in
    record { core = same_size q.storage q.storage k.cpu c.answer_call.new.cpu q.plan q.plan q.session (with_job q.session m (job_answered m q.task (Operand c.args.number) c.args.next m.progress.job.numbers)) q.stands.session now refl refl; sectors = refl; given = refl }
