use Rattle.std.proofs.Common.{◌≡◌, ℕ, ◌<◌, ℤ, [], List, length, true, false, SFits, rules, refl, sym, ◌∙◌, ap, subst, w64, to_z, of_z}
use Rattle.std.proofs.lemmas.Result.{err_from_is_err_and}
use Rattle.std.proofs.lemmas.Int.{to_z-of_z}
use Rattle.b67_lemmas.proofs.Members.{length_change}
use Rattle.b67_word.specs.Tagged.{Tagged}
use Rattle.b67_model.specs.Common.{Answer, ◌>>=◌, Task, awaits, answered, is_live}
use Rattle.b67_model.specs.State as State
use Rattle.b67_layout.specs.Meets.{here}
use Rattle.b67_layout.proofs.Fresh.{running_in_order}
use Rattle.b67_task.specs.Tables.{state_of}
use Rattle.b67_task.proofs.Living.{next_at}
use Rattle.b67_mcp.specs.Calls.{job_cut}
use Rattle.b67_mcp.proofs.Standing.{machine_cut}
use Rattle.b67_mcp.proofs.WaitArguments.{await_is, may_number}
use Rattle.b67_mcp.proofs.Awaited.{live_number, await_waits, await_free}
use Rattle.b67_mcp.proofs.Made.{runs_some, call_some, has_job, answers_critical, answers_cut}
use Rattle.b67_task.proofs.Keeping.{keeps_same}
use Rattle.b67_mcp.proofs.await_status.await_task.Goals as goal

pub number_in-requires : goal.number_in-requires
number_in-requires c = call_some c.args.machine.now c.requires.call

pub returns-in_err-number-clause-row : goal.returns-in_err-number-clause-row
returns-in_err-number-clause-row c =
    let failed = err_from_is_err_and c.from_residual.result c.from_residual.ensures.1 in
    rw (failed.1, failed.2) (λ x told plan s m t o h runs r arguments call.
    (await_is (here m t c.args.next) arguments ∙ ap (λ (a : Answer ℤ). a >>= awaits (here m t c.args.next)) (sym (c.in_err-number.ensures x plan s m t o h.session runs r arguments call)), refl))

pub returns-in_err-number-clause-kept : goal.returns-in_err-number-clause-kept
returns-in_err-number-clause-kept c = keeps_same c.args.machine.now

pub running_job-job-requires : goal.running_job-job-requires
running_job-job-requires c = c.requires.call.runs

pub next_number-requires : goal.next_number-requires
next_number-requires c =
    let q = c.requires.call.runs in
    let k = c.args.machine.now in
    let n = next_at q.plan q.session q.member k.tasks c.running_job-job.result
    (has_job q.storage q.told k q.plan q.session q.member q.task q.ordered q.stands q.running c.running_job-job.result (c.running_job-job.ensures q.storage q.told q.plan q.session q.member q.task q.ordered q.stands q.running)) in
    (n.0, n.1, n.3)

pub awaiting-requires : goal.awaiting-requires
awaiting-requires c =
    let q = c.requires.call.runs in
    let k = c.args.machine.now in
    let has = has_job q.storage q.told k q.plan q.session q.member q.task q.ordered q.stands q.running c.running_job-job.result (c.running_job-job.ensures q.storage q.told q.plan q.session q.member q.task q.ordered q.stands q.running) in
    let n = next_at q.plan q.session q.member k.tasks c.running_job-job.result has in
    let live = live_number q.plan q.session q.member q.task q.ordered q.running (to_z w64 (of_z w64 c.in_ok-number.number)) (sym (c.lives.ensures q.plan q.session q.member has) ∙ c.if-lives.true) in
    (live.number, live.is, subst (λ (i : ℕ). live.number < i) (sym (c.next_number.ensures n.0 n.1 ∙ n.2)) live.low)

pub returns-then-lives-clause-row : goal.returns-then-lives-clause-row
returns-then-lives-clause-row c = λ x told plan s m t o h runs r arguments call.
    (let k = c.args.machine.now in
    let f : SFits w64 c.in_ok-number.number = search rules in
    let e = to_z-of_z w64 c.in_ok-number.number f in
    let given = sym (c.in_ok-number.ensures x plan s m t o h.session runs r arguments call) in
    let has = has_job x told k plan s m t o h runs c.running_job-job.result (c.running_job-job.ensures x told plan s m t o h runs) in
    let there : is_live m.progress.job (to_z w64 (of_z w64 c.in_ok-number.number)) ≡ true = sym (c.lives.ensures plan s m has) ∙ c.if-lives.true in
    let live = live_number plan s m t o runs (to_z w64 (of_z w64 c.in_ok-number.number)) there in (
      record {
        condition = State.Awaits live.number;
        is = await_waits (here m t c.args.next) arguments c.in_ok-number.number given live.number (sym e ∙ live.is) (ap (is_live m.progress.job) (sym e) ∙ there);
        shows = ap state_of (c.awaiting.ensures live.number live.is);
      },
      refl,
    ))

pub returns-then-lives-clause-kept : goal.returns-then-lives-clause-kept
returns-then-lives-clause-kept c = keeps_same c.args.machine.now

pub is_critical-requires : goal.is_critical-requires
is_critical-requires c = runs_some c.args.machine.now c.requires.call.runs

pub returns-then-is_critical-clause-row : goal.returns-then-is_critical-clause-row
returns-then-is_critical-clause-row c = λ x told plan s m t o h runs r arguments call.
    (let k = c.args.machine.now in
    let f : SFits w64 c.in_ok-number.number = search rules in
    let e = to_z-of_z w64 c.in_ok-number.number f in
    let given = sym (c.in_ok-number.ensures x plan s m t o h.session runs r arguments call) in
    let has = has_job x told k plan s m t o h runs c.running_job-job.result (c.running_job-job.ensures x told plan s m t o h runs) in
    let gone : is_live m.progress.job c.in_ok-number.number ≡ false = ap (is_live m.progress.job) (sym e) ∙ sym (c.lives.ensures plan s m has) ∙ c.if-lives.false in
    (await_free (here m t c.args.next) arguments c.in_ok-number.number given gone ∙ answers_critical m t c.args.next [] (sym (c.is_critical.ensures x plan s m t o h.session runs) ∙ c.if-is_critical.true), refl))

pub returns-then-is_critical-clause-kept : goal.returns-then-is_critical-clause-kept
returns-then-is_critical-clause-kept c = keeps_same c.args.machine.now

pub cut_call-requires-clause-call : goal.cut_call-requires-clause-call
cut_call-requires-clause-call c =
    let q = c.requires.call.runs in
    let k = c.requires.call in
    record {
      runs = runs_some c.args.machine.now q;
      may = may_number q.member q.task k.reference k.arguments k.call c.in_ok-number.number (sym (c.in_ok-number.ensures q.storage q.plan q.session q.member q.task q.ordered q.stands.session q.running k.reference k.arguments k.call))
          (sym (c.is_critical.ensures q.storage q.plan q.session q.member q.task q.ordered q.stands.session q.running) ∙ c.if-is_critical.false);
    }

pub returns-clause-row : goal.returns-clause-row
returns-clause-row c = λ x told plan s m t o h runs r arguments call.
    (let k = c.args.machine.now in
    let f : SFits w64 c.in_ok-number.number = search rules in
    let e = to_z-of_z w64 c.in_ok-number.number f in
    let given = sym (c.in_ok-number.ensures x plan s m t o h.session runs r arguments call) in
    let has = has_job x told k plan s m t o h runs c.running_job-job.result (c.running_job-job.ensures x told plan s m t o h runs) in
    let gone : is_live m.progress.job c.in_ok-number.number ≡ false = ap (is_live m.progress.job) (sym e) ∙ sym (c.lives.ensures plan s m has) ∙ c.if-lives.false in
    let free = sym (c.is_critical.ensures x plan s m t o h.session runs) ∙ c.if-is_critical.false in
    let may = may_number m t r arguments call c.in_ok-number.number given free in
    record {
      job = job_cut m t c.args.next;
      is = await_free (here m t c.args.next) arguments c.in_ok-number.number given gone ∙ answers_cut m t c.args.next free (running_in_order plan s m t o runs).1.not_higher;
      same = length_change (λ (u : Task). u.number) t.number (answered (here m t c.args.next) []) m.progress.job.tasks;
      stands = machine_cut plan s m t o runs may c.args.next x told k h c.cut_call.new.cpu c.cut_call.ensures.core (c.cut_call.ensures.stands x plan s m t o h.session runs may);
      printed = refl;
    })

pub returns-clause-kept : goal.returns-clause-kept
returns-clause-kept c = record { core = ap (λ (l : List Tagged). length l) c.cut_call.ensures.core; sectors = refl; given = refl }
