use Rattle.std.proofs.Common.{ℕ, ◌-◌, Ok, refl, sym, ◌∙◌, ap, arith, subst, slice_set}
use Rattle.std.proofs.lemmas.Result.{err_from_is_err_and}
use Rattle.std.specs.List.{slice_get}
use Rattle.b67_word.specs.declared.couples.Place.{Place}
use Rattle.b67_model.specs.Intrinsics.{read_from}
use Rattle.b67_layout.specs.Meets.{with_job}
use Rattle.b67_mcp.specs.Reads.{job_read}
use Rattle.b67_task.specs.declared.tables.Machine.{Machine}
use Rattle.b67_task.specs.declared.tables.Tasks.{Tasks}
use Rattle.b67_task.specs.Tables.{MachineRepresents}
use Rattle.b67_mcp.proofs.Callings.{calling, reads_of, call_some}
use Rattle.b67_mcp.proofs.Sizes.{same_size, kept_is}
use Rattle.b67_mcp.proofs.Numbers.{job_in, tasks_same, same_given, tables_read}
use Rattle.b67_task.specs.Tables.{given_of}
use Rattle.b67_task.proofs.Keeping.{rows_put, given_put}
use Rattle.b67_mcp.proofs.read.read.Goals as goal
use Rattle.b67_lemmas.proofs.Members.{has_get}

pub next_place-next-requires : goal.next_place-next-requires
next_place-next-requires c = reads_of c.args.machine.now 11 c.requires.calls

pub running_row-requires : goal.running_row-requires
running_row-requires c = reads_of c.args.machine.now 11 c.requires.calls

pub overflow_sub-at : goal.overflow_sub-at
overflow_sub-at c =
    let q = c.requires.calls.runs in
    let j = job_in c.args.machine.now.tasks q.plan q.session q.member q.task q.ordered q.stands.tables q.running in
    let e = c.running_row.ensures.job q.storage q.told q.plan q.session q.member q.task q.ordered q.stands q.running c.requires.calls.code in
    omega (arith, j.from_one, e)

pub take_number-requires : goal.take_number-requires
take_number-requires c =
    let q = c.requires.calls.runs in
    let tasks = c.args.machine.now.tasks in
    let j = job_in tasks q.plan q.session q.member q.task q.ordered q.stands.tables q.running in
    let e = c.running_row.ensures.job q.storage q.told q.plan q.session q.member q.task q.ordered q.stands q.running c.requires.calls.code in (
      j.row,
      ap (λ (n : ℕ). slice_get tasks.jobs (n - 1)) e ∙ j.at,
      record { some = call_some c.args.machine.now 11 c.requires.calls; shows = j.shows },
      c.requires.countable j.row (has_get tasks.jobs (q.member.constants.number - 1) j.row j.at),
    )

pub returns-in_err-number-clause-row : goal.returns-in_err-number-clause-row
returns-in_err-number-clause-row c =
    let failed = err_from_is_err_and c.from_residual.result c.from_residual.ensures.1 in
    rw (failed.1, failed.2) (λ x told plan s m t o h runs code called.
    (let k = calling m t 11 called in
    let old = c.args.machine.now in
    let j = job_in old.tasks plan s m t o h.tables runs in
    let at = ap (λ (n : ℕ). slice_get old.tasks.jobs (n - 1)) (c.running_row.ensures.job x told plan s m t o h runs code) ∙ j.at in
    let did = c.in_err-number.ensures.takes j.row at in
    let meets = did.takes x plan s m t o h.session runs k.reference k.arguments k.call j.shows in
    (k.is ∙ meets.0 k.next, ap (λ (z : Tasks). record old { tasks = z }) (tasks_same old.tasks c.take_number.new.tasks (c.running_row.result.job - 1) j.row did.new at did.is meets.1 c.take_number.ensures.rest))))

pub returns-in_err-number-clause-kept : goal.returns-in_err-number-clause-kept
returns-in_err-number-clause-kept c =
    let q = c.requires.calls.runs in
    let k = calling q.member q.task 11 c.requires.calls.called in
    let old = c.args.machine.now in
    let j = job_in old.tasks q.plan q.session q.member q.task q.ordered q.stands.tables q.running in
    let at = ap (λ (n : ℕ). slice_get old.tasks.jobs (n - 1)) (c.running_row.ensures.job q.storage q.told q.plan q.session q.member q.task q.ordered q.stands q.running c.requires.calls.code) ∙ j.at in
    let did = c.in_err-number.ensures.takes j.row at in
    let meets = did.takes q.storage q.plan q.session q.member q.task q.ordered q.stands.session q.running k.reference k.arguments k.call j.shows in
    kept_is old (record old { tasks = c.take_number.new.tasks }) (ap (λ (z : Tasks). record old { tasks = z }) (tasks_same old.tasks c.take_number.new.tasks (c.running_row.result.job - 1) j.row did.new at did.is meets.1 c.take_number.ensures.rest))

pub answer_call-requires-clause-call : goal.answer_call-requires-clause-call
answer_call-requires-clause-call c =
    let q = c.requires.calls.runs in
    let k = calling q.member q.task 11 c.requires.calls.called in
    let old = c.args.machine.now in
    let j = job_in old.tasks q.plan q.session q.member q.task q.ordered q.stands.tables q.running in
    let at = ap (λ (n : ℕ). slice_get old.tasks.jobs (n - 1)) (c.running_row.ensures.job q.storage q.told q.plan q.session q.member q.task q.ordered q.stands q.running c.requires.calls.code) ∙ j.at in
    let did = c.in_ok-number.ensures.takes j.row at in
    record { runs = (call_some old 11 c.requires.calls).runs; may = (did.takes q.storage q.plan q.session q.member q.task q.ordered q.stands.session q.running k.reference k.arguments k.call j.shows).may }

pub returns-clause-row : goal.returns-clause-row
returns-clause-row c = λ x told plan s m t o h runs code called.
    (let k = calling m t 11 called in
    let old = c.args.machine.now in
    let cpu = c.answer_call.new.cpu in
    let tasks = c.take_number.new.tasks in
    let new : Machine = record old { cpu = cpu; tasks = tasks } in
    let j = job_in old.tasks plan s m t o h.tables runs in
    let ej = c.running_row.ensures.job x told plan s m t o h runs code in
    let at = ap (λ (n : ℕ). slice_get old.tasks.jobs (n - 1)) ej ∙ j.at in
    let did = c.in_ok-number.ensures.takes j.row at in
    let meets = did.takes x plan s m t o h.session runs k.reference k.arguments k.call j.shows in
    let taken = read_from m.progress.job.numbers in
    let q = c.next_place-next.result in
    let same = c.next_place-next.ensures.behind x told plan s m t o h runs code k.next k.reading in
    let session = c.answer_call.ensures.stands x plan s m t o h.session runs taken.0 taken.1 meets.may meets.is in
    let size = same_size x x old.cpu cpu plan plan s (with_job s m (job_read m t q)) h.session session refl refl in
    let is = did.is ∙ ap (λ (n : ℕ). slice_set old.tasks.jobs (n - 1) did.new) ej in
    let P : Place → Type 0 = λ p. MachineRepresents x told new plan (with_job s m (job_read m t p)) in (
      record {
        job = job_read m t k.next;
        is = k.is ∙ meets.makes k.next;
        storage = x;
        plan = plan;
        stands = subst P same (record {
          session = session;
          storage = record { low = h.storage.low; size = h.storage.size ∙ sym size; shelf = h.storage.shelf; device = h.storage.device };
          tables = tables_read plan s m t o runs q k.arguments old.tasks tasks h.tables j.row did.new c.in_ok-number.number j.at is c.take_number.ensures.rest meets;
        });
        printed = ap (λ (z : Tasks). z.printed) c.take_number.ensures.rest;
      },
      λ no_process home none. refl,
    ))

pub returns-clause-kept : goal.returns-clause-kept
returns-clause-kept c =
    let q = c.requires.calls.runs in
    let k = calling q.member q.task 11 c.requires.calls.called in
    let old = c.args.machine.now in
    let cpu = c.answer_call.new.cpu in
    let j = job_in old.tasks q.plan q.session q.member q.task q.ordered q.stands.tables q.running in
    let at = ap (λ (n : ℕ). slice_get old.tasks.jobs (n - 1)) (c.running_row.ensures.job q.storage q.told q.plan q.session q.member q.task q.ordered q.stands q.running c.requires.calls.code) ∙ j.at in
    let did = c.in_ok-number.ensures.takes j.row at in
    let meets = did.takes q.storage q.plan q.session q.member q.task q.ordered q.stands.session q.running k.reference k.arguments k.call j.shows in
    let taken = read_from q.member.progress.job.numbers in
    let session = c.answer_call.ensures.stands q.storage q.plan q.session q.member q.task q.ordered q.stands.session q.running taken.0 taken.1 meets.may meets.is in
    record {
      core = same_size q.storage q.storage old.cpu cpu q.plan q.plan q.session (with_job q.session q.member (job_read q.member q.task c.next_place-next.result)) q.stands.session session refl refl;
      sectors = refl;
      given = given_put old.tasks c.take_number.new.tasks (ap given_of c.take_number.ensures.rest)
          (rows_put old.tasks.jobs c.take_number.new.tasks.jobs (c.running_row.result.job - 1) j.row did.new at did.is (same_given q.plan q.member q.task k.arguments j.row did.new (Ok c.in_ok-number.number) meets));
    }

pub returns-clause-changed : goal.returns-clause-changed
returns-clause-changed c =
    let q = c.requires.calls.runs in
    let k = calling q.member q.task 11 c.requires.calls.called in
    let old = c.args.machine.now in
    let j = job_in old.tasks q.plan q.session q.member q.task q.ordered q.stands.tables q.running in
    let at = ap (λ (n : ℕ). slice_get old.tasks.jobs (n - 1)) (c.running_row.ensures.job q.storage q.told q.plan q.session q.member q.task q.ordered q.stands q.running c.requires.calls.code) ∙ j.at in
    let did = c.in_ok-number.ensures.takes j.row at in
    let meets = did.takes q.storage q.plan q.session q.member q.task q.ordered q.stands.session q.running k.reference k.arguments k.call j.shows in
    c.answer_call.ensures.changed q.storage q.plan q.session q.member q.task q.ordered q.stands.session q.running meets.may
