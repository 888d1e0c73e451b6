use Rattle.std.proofs.Common.{◌≡◌, ℕ, refl, sym, ◌∙◌, subst}
use Rattle.std.proofs.lemmas.Result.{err_from_is_err_and}
use Rattle.b67_word.specs.declared.couples.Place.{Place}
use Rattle.b67_layout.specs.Meets.{with_job}
use Rattle.b67_mcp.specs.Declaring.{job_declared, with_home, storage_without}
use Rattle.std.proofs.lemmas.Bool.{eq-eqb}
use Rattle.b67_layout.specs.Placement.{Placement}
use Rattle.b67_stack.specs.Shapes.{nowhere}
use Rattle.b67_stack.proofs.Helds.{held-other}
use Rattle.b67_mcp.specs.Called.{is_new}
use Rattle.b67_task.specs.declared.tables.Machine.{Machine}
use Rattle.b67_task.specs.Tables.{MachineRepresents}
use Rattle.b67_mcp.proofs.Callings.{calling, reads_of, call_some}
use Rattle.b67_mcp.proofs.Sizes.{same_size}
use Rattle.b67_mcp.proofs.Answered.{tables_declared}
use Rattle.b67_mcp.proofs.declare.declare.Goals as goal

-- where the new original stands
home_here : (plan : Placement) (j n at : ℕ) → (with_home plan j n at).home j n ≡ at
home_here plan j n at = rw (eq-eqb j j refl, eq-eqb n n refl) refl

pub array_length-requires : goal.array_length-requires
array_length-requires c = call_some c.args.machine.now 8 c.requires

pub returns-in_err-length-clause-row : goal.returns-in_err-length-clause-row
returns-in_err-length-clause-row c =
    let failed = err_from_is_err_and c.from_residual.result c.from_residual.ensures.1 in
    rw (failed.1, failed.2) (λ x told plan s m t o h runs code called.
    (let k = calling m t 8 called in (k.is ∙ c.in_err-length.ensures.row x plan s m t o h.session runs k.reference k.arguments k.call k.next, refl)))

pub next_place-next-requires : goal.next_place-next-requires
next_place-next-requires c = reads_of c.args.machine.now 8 c.requires

pub answer_array-requires-clause-call : goal.answer_array-requires-clause-call
answer_array-requires-clause-call c =
    let q = c.requires.runs in
    let k = calling q.member q.task 8 c.requires.called in
    let r = c.in_ok-length.ensures.row q.storage q.plan q.session q.member q.task q.ordered q.stands.session q.running k.reference k.arguments k.call in
    record { runs = (call_some c.args.machine.now 8 c.requires).runs; may = r.2 }

pub answer_array-requires-clause-some : goal.answer_array-requires-clause-some
answer_array-requires-clause-some c =
    let q = c.requires.runs in
    let k = calling q.member q.task 8 c.requires.called in
    (c.in_ok-length.ensures.row q.storage q.plan q.session q.member q.task q.ordered q.stands.session q.running k.reference k.arguments k.call).0

pub answer_array-requires-clause-small : goal.answer_array-requires-clause-small
answer_array-requires-clause-small c =
    let q = c.requires.runs in
    let k = calling q.member q.task 8 c.requires.called in
    (c.in_ok-length.ensures.row q.storage q.plan q.session q.member q.task q.ordered q.stands.session q.running k.reference k.arguments k.call).1

pub returns-clause-row : goal.returns-clause-row
returns-clause-row c = λ x told plan s m t o h runs code called.
    (let k = calling m t 8 called in
    let old = c.args.machine.now in
    let cpu = c.answer_array.new.cpu in
    let new : Machine = record old { cpu = cpu } in
    let n = c.in_ok-length.length in
    let r = c.in_ok-length.ensures.row x plan s m t o h.session runs k.reference k.arguments k.call in
    let q = c.next_place-next.result in
    let there = with_home plan m.constants.number m.progress.job.next_array cpu.regs.s in
    let same = c.next_place-next.ensures.behind x told plan s m t o h runs code k.next k.reading in
    let session = c.answer_array.ensures.stands x plan s m t o h.session runs r.2 in
    let size = same_size x (storage_without x cpu.regs.s) old.cpu cpu plan there s (with_job s m (job_declared m t n q)) h.session session refl refl in
    let P : Place → Type 0 = λ p. MachineRepresents (storage_without x cpu.regs.s) told new there (with_job s m (job_declared m t n p)) in (
      record {
        job = job_declared m t n k.next;
        is = k.is ∙ r.3 k.next;
        storage = storage_without x cpu.regs.s;
        plan = there;
        stands = subst P same (record {
          session = session;
          storage = record { low = h.storage.low; size = h.storage.size ∙ sym size; shelf = h.storage.shelf; device = h.storage.device };
          tables = tables_declared plan s m t o runs r.2 q n cpu.regs.s old.tasks h.tables;
        });
        printed = refl;
      },
      λ no_process home none. held-other x.held cpu.regs.s nowhere home (λ e. none (is_new called (home_here plan m.constants.number m.progress.job.next_array cpu.regs.s ∙ sym e))),
    ))

pub returns-clause-kept : goal.returns-clause-kept
returns-clause-kept c =
    let q = c.requires.runs in
    let old = c.args.machine.now in
    let cpu = c.answer_array.new.cpu in
    let k = calling q.member q.task 8 c.requires.called in
    let r = c.in_ok-length.ensures.row q.storage q.plan q.session q.member q.task q.ordered q.stands.session q.running k.reference k.arguments k.call in
    let session = c.answer_array.ensures.stands q.storage q.plan q.session q.member q.task q.ordered q.stands.session q.running r.2 in
    record { core = same_size q.storage (storage_without q.storage cpu.regs.s) old.cpu cpu q.plan (with_home q.plan q.member.constants.number q.member.progress.job.next_array cpu.regs.s) q.session (with_job q.session q.member (job_declared q.member q.task c.in_ok-length.length c.next_place-next.result)) q.stands.session session refl refl; sectors = refl; given = refl }

pub returns-clause-changed : goal.returns-clause-changed
returns-clause-changed c =
    let q = c.requires.runs in
    let k = calling q.member q.task 8 c.requires.called in
    let r = c.in_ok-length.ensures.row q.storage q.plan q.session q.member q.task q.ordered q.stands.session q.running k.reference k.arguments k.call in
    c.answer_array.ensures.changed q.storage q.plan q.session q.member q.task q.ordered q.stands.session q.running r.2
