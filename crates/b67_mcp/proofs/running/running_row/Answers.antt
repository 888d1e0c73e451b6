use Rattle.std.proofs.Common.{List, ap, ◌∙◌}
use Rattle.std.specs.List.{slice_get}
use Rattle.std.proofs.lemmas.Option.{get_or_from_slice_get, slice_get_within}
use Rattle.b67_task.specs.declared.tables.TaskRow.{TaskRow}
use Rattle.b67_mcp.proofs.Passed.{row_of}
use Rattle.b67_mcp.proofs.running.running_row.Goals as goal

pub bounds-deref-machine : goal.bounds-deref-machine
bounds-deref-machine c =
    let q = c.requires.runs in
    let k = c.args.machine.now in
    let r = row_of q.storage k.cpu k.tasks q.plan q.session q.member q.task q.ordered q.stands.session q.stands.tables q.running in
    slice_get_within c.deref.result.now k.tasks.running r.row (ap (λ (l : List TaskRow). slice_get l k.tasks.running) c.deref.ensures.0 ∙ r.at)

pub returns-clause-job : goal.returns-clause-job
returns-clause-job c = λ x told plan s m t o h runs code.
    (let k = c.args.machine.now in
    let r = row_of x k.cpu k.tasks plan s m t o h.session h.tables runs in
    ap (λ (z : TaskRow). z.job) (get_or_from_slice_get c.deref.result.now k.tasks.running r.row _ (ap (λ (l : List TaskRow). slice_get l k.tasks.running) c.deref.ensures.0 ∙ r.at)) ∙ r.job)

pub returns-clause-number : goal.returns-clause-number
returns-clause-number c = λ x told plan s m t o h runs code.
    (let k = c.args.machine.now in
    let r = row_of x k.cpu k.tasks plan s m t o h.session h.tables runs in
    ap (λ (z : TaskRow). z.number) (get_or_from_slice_get c.deref.result.now k.tasks.running r.row _ (ap (λ (l : List TaskRow). slice_get l k.tasks.running) c.deref.ensures.0 ∙ r.at)) ∙ r.number)
