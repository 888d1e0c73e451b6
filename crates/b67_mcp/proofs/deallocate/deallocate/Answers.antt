use Rattle.std.proofs.Common.{List, length, refl, sym, ap, ◌∙◌, subst}
use Rattle.std.proofs.lemmas.Result.{err_from_is_err_and}
use Rattle.b67_word.specs.Tagged.{Tagged}
use Rattle.b67_word.specs.declared.couples.Place.{Place}
use Rattle.b67_model.specs.Common.{with_array, all_zero, SessionJob}
use Rattle.b67_layout.specs.Common.{array_object, machine_view, with_job}
use Rattle.b67_mcp.specs.Lengthening.{job_emptied}
use Rattle.b67_mcp.specs.Lengths.{emptied}
use Rattle.b67_stack.specs.Shapes.{nowhere}
use Rattle.b67_stack.proofs.Helds.{held-other}
use Rattle.b67_mcp.specs.Called.{is_emptied}
use Rattle.b67_task.specs.declared.tables.Machine.{Machine}
use Rattle.b67_task.specs.Tables.{MachineRepresents}
use Rattle.b67_mcp.proofs.Callings.{calling, reads_of, call_some}
use Rattle.b67_mcp.proofs.Cutting.{zeros_fit, order_changed, runs_changed, may_changed, cuts, stands_cut}
use Rattle.b67_mcp.proofs.Renumbered.{seen}
use Rattle.b67_mcp.proofs.Lengthened.{zeros_renumber, is_array, objects_zeroed, zero_place, stands_emptied}
use Rattle.b67_mcp.proofs.deallocate.deallocate.Goals as goal

pub array_to_empty-requires : goal.array_to_empty-requires
array_to_empty-requires c = call_some c.args.machine.now 17 c.requires

pub returns-in_err-original-clause-row : goal.returns-in_err-original-clause-row
returns-in_err-original-clause-row c =
    let failed = err_from_is_err_and c.from_residual.result c.from_residual.ensures.1 in
    rw (failed.1, failed.2) (λ x told plan s m t o h runs code called.
    (let k = calling m t 17 called in (k.is ∙ c.in_err-original.ensures.row x plan s m t o h.session runs k.reference k.arguments k.call k.next, refl)))

pub next_place-next-requires : goal.next_place-next-requires
next_place-next-requires c = reads_of c.args.machine.now 17 c.requires

pub empty_array-requires : goal.empty_array-requires
empty_array-requires c =
    let q = c.requires.runs in
    let k = calling q.member q.task 17 c.requires.called in
    let r = c.in_ok-original.ensures.row q.storage q.plan q.session q.member q.task q.ordered q.stands.session q.running k.reference k.arguments k.call in (
      q.storage,
      q.told,
      machine_view q.plan q.session.jobs,
      array_object q.plan q.member.constants.number r.which.array,
      seen q.storage q.told c.args.machine.now q.plan q.session q.ordered q.stands,
      is_array q.storage q.told c.args.machine.now q.plan q.session q.member q.task q.ordered q.stands q.running r.which.array r.which.among c.in_ok-original.original r.which.home r.which.writable,
    )

pub cut_call-requires-clause-call : goal.cut_call-requires-clause-call
cut_call-requires-clause-call c =
    let q = c.requires.runs in
    let old = c.args.machine.now in
    let k = calling q.member q.task 17 c.requires.called in
    let r = c.in_ok-original.ensures.row q.storage q.plan q.session q.member q.task q.ordered q.stands.session q.running k.reference k.arguments k.call in
    let a = r.which.array in
    let object = array_object q.plan q.member.constants.number a in
    let p = machine_view q.plan q.session.jobs in
    let e = c.empty_array.ensures in
    let view = seen q.storage q.told old q.plan q.session q.ordered q.stands in
    let array = is_array q.storage q.told old q.plan q.session q.member q.task q.ordered q.stands q.running a r.which.among c.in_ok-original.original r.which.home r.which.writable in
    let mid : Machine = record old { cpu = c.empty_array.new.cpu; areas = c.empty_array.new.areas; sectors = c.empty_array.new.sectors } in
    let stands = stands_emptied q.storage q.told old q.plan q.session q.member q.task q.ordered q.stands q.running a r.which.among c.empty_array.new.cpu c.empty_array.new.areas c.empty_array.new.sectors e.keeps
    (e.outside q.storage q.told p object view array)
    (e.row q.storage q.told p object (objects_zeroed q.storage q.told old q.plan q.session q.member q.task q.ordered q.stands q.running a r.which.among) view array (zero_place q.storage q.told old q.plan q.session q.member q.task q.ordered q.stands q.running a r.which.among)) in
    cuts q.plan q.session q.member q.task q.ordered q.running a.identity all_zero zeros_renumber zeros_fit r.may (emptied q.storage object) q.told mid stands

pub returns-clause-row : goal.returns-clause-row
returns-clause-row c = λ x told plan s m t o h runs code called.
    (let old = c.args.machine.now in
    let k = calling m t 17 called in
    let r = c.in_ok-original.ensures.row x plan s m t o h.session runs k.reference k.arguments k.call in
    let a = r.which.array in
    let object = array_object plan m.constants.number a in
    let p = machine_view plan s.jobs in
    let e = c.empty_array.ensures in
    let view = seen x told old plan s o h in
    let array = is_array x told old plan s m t o h runs a r.which.among c.in_ok-original.original r.which.home r.which.writable in
    let mid : Machine = record old { cpu = c.empty_array.new.cpu; areas = c.empty_array.new.areas; sectors = c.empty_array.new.sectors } in
    let stands = stands_emptied x told old plan s m t o h runs a r.which.among c.empty_array.new.cpu c.empty_array.new.areas c.empty_array.new.sectors e.keeps
    (e.outside x told p object view array)
    (e.row x told p object (objects_zeroed x told old plan s m t o h runs a r.which.among) view array (zero_place x told old plan s m t o h runs a r.which.among)) in
    let y = emptied x object in
    let order = order_changed plan s m t o runs a.identity all_zero zeros_renumber zeros_fit r.may y told mid stands in
    let runs1 = runs_changed plan s m t o runs a.identity all_zero zeros_renumber zeros_fit r.may y told mid stands in
    let may1 = may_changed plan s m t o runs a.identity all_zero zeros_renumber zeros_fit r.may y told mid stands in
    let m1 : SessionJob = record m { progress = record m.progress { job = with_array m.progress.job a.identity all_zero } } in
    let q = c.next_place-next.result in
    let same = c.next_place-next.ensures.behind x told plan s m t o h runs code k.next k.reading in
    let new : Machine = record mid { cpu = c.cut_call.new.cpu } in
    let P : Place → Type 0 = λ z. MachineRepresents y told new plan (with_job s m (job_emptied m t a.identity z)) in (
      record {
        job = job_emptied m t a.identity k.next;
        is = k.is ∙ r.makes k.next;
        storage = y;
        plan = plan;
        stands = subst P same (stands_cut plan s m t o runs a.identity all_zero zeros_renumber zeros_fit r.may y told mid stands c.cut_call.new.cpu q c.cut_call.ensures.core
            (c.cut_call.ensures.stands y plan (with_job s m m1.progress.job) m1 t order stands.session runs1 may1));
        printed = refl;
      },
      λ no_process home none. held-other x.held object.home nowhere home (λ e. none (is_emptied a called r.which.among r.named (sym e))),
    ))

pub returns-clause-kept : goal.returns-clause-kept
returns-clause-kept c = record { core = ap (λ (core : List Tagged). length core) c.cut_call.ensures.core ∙ c.empty_array.ensures.keeps.len; sectors = c.empty_array.ensures.keeps.count; given = refl }
