use Rattle.std.proofs.Common.{List, length, ◌∙◌, ap, arith}
use Rattle.std.specs.List.{slice_get}
use Rattle.std.proofs.lemmas.Option.{slice_get_within}
use Rattle.b67_lemmas.proofs.Members.{keyed_has}
use Rattle.b67_model.specs.Run.{number_of}
use Rattle.b67_task.proofs.Rows.{rows_few}
use Rattle.b67_task.specs.declared.tables.TaskRow.{TaskRow}
use Rattle.b67_mcp.proofs.RunningRow.{row_of}
use Rattle.b67_mcp.specs.Begins.{rows_of_job}
use Rattle.b67_mcp.proofs.Counts.{counted_tasks, rows_are}
use Rattle.b67_mcp.proofs.process_started.tasks_of_job.Goals as goal

pub bounds-deref-machine : goal.bounds-deref-machine
bounds-deref-machine c =
    let q = c.requires in
    let k = c.args.machine.now in
    let r = row_of q.storage k.cpu k.tasks q.plan q.session q.member q.task q.ordered q.stands.session q.stands.tables q.running in
    slice_get_within c.deref.result.now k.tasks.running r.row (ap (λ (l : List TaskRow). slice_get l k.tasks.running) c.deref.ensures.0 ∙ r.at)

pub rows_of-requires : goal.rows_of-requires
rows_of-requires c =
    let q = c.requires in
    let k = c.args.machine.now in
    let n = rows_few k.tasks q.plan q.session q.storage k.cpu q.ordered q.stands.session q.stands.tables in
    omega (arith, ap (λ (l : List TaskRow). length l) c.as_slice.ensures.value, n, q.ordered.peak_low, q.ordered.peak_high)

pub returns : goal.returns
returns c = λ x told plan s m t o h runs.
    (let k = c.args.machine.now in
    let r = row_of x k.cpu k.tasks plan s m t o h.session h.tables runs in
    counted_tasks c.as_slice.result.now k.tasks.rows.items c.deref.result.now k.tasks.running r.row _ c.rows_of.result c.rows_of.ensures c.as_slice.ensures.value (ap (λ (l : List TaskRow). slice_get l k.tasks.running) c.deref.ensures.0 ∙ r.at)
    ∙ ap (rows_of_job k.tasks.rows.items) r.job
    ∙ rows_are k.tasks plan s m o h.session.holds.fits.rows (keyed_has number_of m.constants.number s.jobs m runs.member).0 h.tables)
