use Rattle.std.proofs.Common.{◌≤◌, List, length, refl, ◌∙◌, subst}
use Rattle.b67_task.specs.declared.tables.TaskRow.{TaskRow}
use Rattle.b67_task.specs.RowMarks.{ShowsMarks}
use Rattle.b67_task.specs.Deaths.{ending_numbers}
use Rattle.b67_task.proofs.Machines.{view, may_bury, slots_are, has_ended}
use Rattle.b67_task.proofs.ends.end_one.Goals as goal

pub take_out-requires : goal.take_out-requires
take_out-requires c =
    let q = c.requires.some in
    let k = c.args.machine.now in (
      q.storage,
      q.told,
      q.plan,
      q.session,
      q.job_of,
      ending_numbers c.args.list.now,
      view k q.tables q.storage q.told q.plan q.session q.job_of c.args.list.now q.stands q.may,
      may_bury k q.tables q.storage q.told q.plan q.session q.job_of c.args.list.now q.stands q.may,
      slots_are k q.tables q.storage q.told q.plan q.session q.job_of c.args.list.now q.stands q.may c.args.job q.number c.as_slice.result.now c.as_slice.ensures.value
          c.as_slice-2.result.now (c.as_slice-2.ensures.value ∙ c.slots_of-slots.ensures),
    )

pub returns-clause-stands : goal.returns-clause-stands
returns-clause-stands c = λ u x told plan s m h may number.
    let k = c.args.machine.now in
    let list = c.args.list.now in
    let few : length k.tasks.rows.items ≤ 120 = subst (λ (rs : List TaskRow). length rs ≤ 120) c.as_slice.ensures.value c.as_slice.ensures.fits in
    let e = c.take_out.ensures in
    let slots = slots_are k u x told plan s m list h may c.args.job number c.as_slice.result.now c.as_slice.ensures.value c.as_slice-2.result.now (c.as_slice-2.ensures.value ∙ c.slots_of-slots.ensures) in
    let (y, p, v, buried, gave) = e.stands x told plan s m (ending_numbers list) (view k u x told plan s m list h may) (may_bury k u x told plan s m list h may) slots in
    has_ended k u x told plan s m list h may few c.take_out.new.cpu c.take_out.new.areas c.take_out.new.sectors (record k.tasks { rows = c.leave_rows.new.rows; running = 255 }) c.marks_of-machine.result c.args.job
    k.tasks.rows.items y p c.as_slice-2.result.now slots number refl e.areas e.len v buried gave c.leave_rows.ensures refl
    (subst (ShowsMarks c.marks_of-machine.result) c.as_slice-3.ensures.value c.marks_of-machine.ensures)
