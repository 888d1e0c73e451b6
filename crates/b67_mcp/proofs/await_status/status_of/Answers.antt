use Rattle.std.proofs.Common.{◌≡◌, ◌<◌, ◌^◌, ℤ, [], ◌∷◌, None, SFits, rules, refl, sym, ◌∙◌, ap, arith, w64}
use Rattle.std.proofs.lemmas.Result.{err_from_is_err_and}
use Rattle.std.proofs.lemmas.Int.{to_z-of_z}
use Rattle.b67_lemmas.proofs.Members.{length_change}
use Rattle.b67_word.specs.Tagged.{word}
use Rattle.b67_model.specs.Common.{Answer, ◌>>=◌, Operand, Task, answers, answered, status_of}
use Rattle.b67_layout.specs.Meets.{here, with_job}
use Rattle.b67_layout.proofs.Fresh.{running_in_order}
use Rattle.b67_mcp.specs.Answered.{job_answered}
use Rattle.b67_mcp.proofs.Standing.{machine_answered, same_size}
use Rattle.b67_mcp.proofs.WaitArguments.{status_is, may_number}
use Rattle.b67_mcp.proofs.Made.{runs_some, call_some, has_job, answers_critical, answers_one}
use Rattle.b67_task.proofs.Keeping.{keeps_same}
use Rattle.b67_mcp.proofs.await_status.status_of.Goals as goal

pub number_in-requires : goal.number_in-requires
number_in-requires c = call_some c.args.machine.now c.requires.call

pub returns-in_err-number-clause-row : goal.returns-in_err-number-clause-row
returns-in_err-number-clause-row c =
    let failed = err_from_is_err_and c.from_residual.result c.from_residual.ensures.1 in
    rw (failed.1, failed.2) (λ x told plan s m t o h runs r arguments call.
    (status_is (here m t c.args.next) arguments ∙ ap (λ (a : Answer ℤ). a >>= λ n. answers (here m t c.args.next) m.progress.job (Operand (status_of m.progress.job n) ∷ []) [] None) (sym (c.in_err-number.ensures x plan s m t o h.session runs r arguments call)), refl))

pub returns-in_err-number-clause-kept : goal.returns-in_err-number-clause-kept
returns-in_err-number-clause-kept c = keeps_same c.args.machine.now

pub is_critical-requires : goal.is_critical-requires
is_critical-requires c = runs_some c.args.machine.now c.requires.call.runs

pub returns-then-is_critical-clause-row : goal.returns-then-is_critical-clause-row
returns-then-is_critical-clause-row c = λ x told plan s m t o h runs r arguments call.
    (let given = sym (c.in_ok-number.ensures x plan s m t o h.session runs r arguments call) in (
      status_is (here m t c.args.next) arguments ∙ ap (λ (a : Answer ℤ). a >>= λ n. answers (here m t c.args.next) m.progress.job (Operand (status_of m.progress.job n) ∷ []) [] None) given
          ∙ answers_critical m t c.args.next (Operand (status_of m.progress.job c.in_ok-number.number) ∷ []) (sym (c.is_critical.ensures x plan s m t o h.session runs) ∙ c.if-is_critical.true),
      refl,
    ))

pub returns-then-is_critical-clause-kept : goal.returns-then-is_critical-clause-kept
returns-then-is_critical-clause-kept c = keeps_same c.args.machine.now

pub running_job-job-requires : goal.running_job-job-requires
running_job-job-requires c = c.requires.call.runs

pub status-told-requires : goal.status-told-requires
status-told-requires c =
    let q = c.requires.call.runs in
    let k = c.args.machine.now in
    record {
      plan = q.plan;
      session = q.session;
      job_of = q.member;
      has = has_job q.storage q.told k q.plan q.session q.member q.task q.ordered q.stands q.running c.running_job-job.result (c.running_job-job.ensures q.storage q.told q.plan q.session q.member q.task q.ordered q.stands q.running);
    }

pub of-requires : goal.of-requires
of-requires c = let low : c.from.result < 2 ^ 48 = omega (arith, c.from.ensures, c.status-told.type_inv) in record { tag = omega arith; bits = low }

pub answer_call-requires-clause-call : goal.answer_call-requires-clause-call
answer_call-requires-clause-call c =
    let q = c.requires.call.runs in
    let k = c.requires.call in
    record {
      runs = runs_some c.args.machine.now q;
      may = may_number q.member q.task k.reference k.arguments k.call c.in_ok-number.number (sym (c.in_ok-number.ensures q.storage q.plan q.session q.member q.task q.ordered q.stands.session q.running k.reference k.arguments k.call))
          (sym (c.is_critical.ensures q.storage q.plan q.session q.member q.task q.ordered q.stands.session q.running) ∙ c.if-is_critical.false);
    }

pub returns-clause-row : goal.returns-clause-row
returns-clause-row c = λ x told plan s m t o h runs r arguments call.
    (let k = c.args.machine.now in
    let f : SFits w64 c.in_ok-number.number = search rules in
    let e = to_z-of_z w64 c.in_ok-number.number f in
    let given = sym (c.in_ok-number.ensures x plan s m t o h.session runs r arguments call) in
    let has = has_job x told k plan s m t o h runs c.running_job-job.result (c.running_job-job.ensures x told plan s m t o h runs) in
    let told_is : c.status-told.result ≡ status_of m.progress.job c.in_ok-number.number = c.status-told.ensures plan s m has ∙ ap (status_of m.progress.job) e in
    let free = sym (c.is_critical.ensures x plan s m t o h.session runs) ∙ c.if-is_critical.false in
    let may = may_number m t r arguments call c.in_ok-number.number given free in
    let bits = status_of m.progress.job c.in_ok-number.number in
    record {
      job = job_answered m t (Operand bits) c.args.next m.progress.job.numbers;
      is = status_is (here m t c.args.next) arguments ∙ ap (λ (a : Answer ℤ). a >>= λ n. answers (here m t c.args.next) m.progress.job (Operand (status_of m.progress.job n) ∷ []) [] None) given
          ∙ answers_one m t c.args.next (Operand bits) free (running_in_order plan s m t o runs).1.not_higher;
      same = length_change (λ (u : Task). u.number) t.number (answered (here m t c.args.next) (Operand bits ∷ [])) m.progress.job.tasks;
      stands = machine_answered plan s m t o runs may c.args.next x told k h c.answer_call.new.cpu (Operand bits) (c.answer_call.ensures.stands x plan s m t o h.session runs bits m.progress.job.numbers may (c.of.ensures ∙ ap (word 0) (c.from.ensures ∙ told_is)));
      printed = refl;
    })

pub returns-clause-kept : goal.returns-clause-kept
returns-clause-kept c =
    let q = c.requires.call.runs in
    let k = c.requires.call in
    let given = sym (c.in_ok-number.ensures q.storage q.plan q.session q.member q.task q.ordered q.stands.session q.running k.reference k.arguments k.call) in
    let free = sym (c.is_critical.ensures q.storage q.plan q.session q.member q.task q.ordered q.stands.session q.running) ∙ c.if-is_critical.false in
    let may = may_number q.member q.task k.reference k.arguments k.call c.in_ok-number.number given free in
    record {
      core = same_size q.storage q.storage c.args.machine.now.cpu c.answer_call.new.cpu q.plan q.plan q.session (with_job q.session q.member (job_answered q.member q.task (Operand c.status-told.result) c.args.next q.member.progress.job.numbers)) q.stands.session
          (c.answer_call.ensures.stands q.storage q.plan q.session q.member q.task q.ordered q.stands.session q.running c.status-told.result q.member.progress.job.numbers may (c.of.ensures ∙ ap (word 0) c.from.ensures)) refl refl;
      sectors = refl;
      given = refl;
    }
