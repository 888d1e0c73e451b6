use Rattle.std.proofs.Common.{sym}
use Rattle.b67_word.specs.declared.faults.Ending.TheVariants.{Limit}
use Rattle.b67_task.proofs.FamilyEnds.{lent_list}
use Rattle.b67_session.proofs.Firsts.{has_first, has_row, ends_family, all_ended, first_as}
use Rattle.b67_session.proofs.deaths.end_job.Goals as goal

pub first_row-row-requires-clause-lives : goal.first_row-row-requires-clause-lives
first_row-row-requires-clause-lives c =
    let r = c.requires in
    let (at, f) = has_first r.storage r.told c.args.machine.now r.plan r.session r.member r.ordered r.stands r.among r.lives in
    (at, first_as c.args.machine.now.tasks.rows.items c.as_slice.result.now r.member.constants.number c.args.job at (sym c.as_slice.ensures.value) r.number f)

pub endings-list-requires : goal.endings-list-requires
endings-list-requires c =
    let r = c.requires in
    has_row r.storage r.told c.args.machine.now r.plan r.session r.member r.ordered r.stands r.among c.first_row-row.result
    (first_as c.as_slice.result.now c.args.machine.now.tasks.rows.items c.args.job r.member.constants.number c.first_row-row.result c.as_slice.ensures.value (sym r.number) c.first_row-row.ensures)

pub end_family-requires-clause-some : goal.end_family-requires-clause-some
end_family-requires-clause-some c =
    let r = c.requires in
    ends_family r.storage r.told c.args.machine.now r.plan r.session r.member r.ordered r.stands r.among c.first_row-row.result
    (first_as c.as_slice.result.now c.args.machine.now.tasks.rows.items c.args.job r.member.constants.number c.first_row-row.result c.as_slice.ensures.value (sym r.number) c.first_row-row.ensures)
    c.args.job r.number c.as_slice-2.result.now (lent_list c.args.machine.now.tasks c.first_row-row.result Limit c.endings-list.result.items c.as_slice-2.result.now c.endings-list.ensures c.as_slice-2.ensures.value)

pub returns-clause-stands : goal.returns-clause-stands
returns-clause-stands c = λ x told plan s m o h among number lives.
    (let f = first_as c.as_slice.result.now c.args.machine.now.tasks.rows.items c.args.job m.constants.number c.first_row-row.result c.as_slice.ensures.value (sym number) c.first_row-row.ensures in
    all_ended x told c.args.machine.now plan s m o h among c.first_row-row.result f c.args.job number c.as_slice-2.result.now (lent_list c.args.machine.now.tasks c.first_row-row.result Limit c.endings-list.result.items c.as_slice-2.result.now c.endings-list.ensures c.as_slice-2.ensures.value) c.end_family.new.machine c.end_family.ensures.stands)
