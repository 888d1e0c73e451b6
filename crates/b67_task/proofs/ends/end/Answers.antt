use Rattle.b67_task.proofs.EndContext.{within_lent}
use Rattle.b67_task.proofs.FamilyEnds.{lent_list}
use Rattle.b67_task.proofs.RowFamily.{holds, job_read, is_family, ends_family, owner, has_some_row}
use Rattle.b67_task.proofs.ends.end.Goals as goal

pub bounds-deref-row : goal.bounds-deref-row
bounds-deref-row c =
    let r = c.requires in
    let w = owner c.args.machine.now c.args.row r in
    within_lent r.plan r.session w.member c.args.machine.now.tasks c.args.row w.task w.row c.deref.result.now c.deref.ensures.0

pub endings-list-requires : goal.endings-list-requires
endings-list-requires c = has_some_row c.args.machine.now c.args.row c.requires

pub end_family-requires-clause-some : goal.end_family-requires-clause-some
end_family-requires-clause-some c =
    let r = c.requires in
    let k = c.args.machine.now in
    let w = owner k c.args.row r in
    let shown = lent_list k.tasks c.args.row c.args.ending c.endings-list.result.items c.as_slice.result.now c.endings-list.ensures c.as_slice.ensures.value in
    ends_family r.storage r.told k r.plan r.session r.ordered r.stands w.member w.task c.args.row w.row _ c.args.ending c.as_slice.result.now
    (job_read k.tasks.rows.items c.deref.result.now c.args.row _ w.row.row c.deref.ensures.0 w.row.there)
    (shown r.plan r.session w.member w.task (holds r.storage r.told k r.plan r.session r.ordered r.stands) w.row)

pub returns-clause-list : goal.returns-clause-list
returns-clause-list c = λ x told plan s m t o h at. c.endings-list.ensures plan s m t (holds x told c.args.machine.now plan s o h) at

pub returns-clause-stands : goal.returns-clause-stands
returns-clause-stands c = λ x told plan s m t o h at.
    (let k = c.args.machine.now in
    let shown = lent_list k.tasks c.args.row c.args.ending c.endings-list.result.items c.as_slice.result.now c.endings-list.ensures c.as_slice.ensures.value in
    c.end_family.ensures.stands x told plan s m t c.args.ending
    (is_family x told k plan s o h m t c.args.row at _ c.args.ending c.as_slice.result.now
    (job_read k.tasks.rows.items c.deref.result.now c.args.row _ at.row c.deref.ensures.0 at.there)
    (shown plan s m t (holds x told k plan s o h) at)))
