use Rattle.std.proofs.Common.{◌+◌, List, ℕ, refl, ap, ◌∙◌, subst}
use Rattle.std.proofs.lemmas.Result.{err_from_is_err_and}
use Rattle.b67_task.specs.declared.tables.Tasks.{Tasks}
use Rattle.b67_session_lines.specs.Parts.{TookRest, TookMore}
use Rattle.b67_task.proofs.FamilyEnds.{lent_list}
use Rattle.b67_session.proofs.Closed.{has_row, has_head, has_job, holds, goes_then, is_family, ends_family, closed_by, same_tasks, room_still, all_text, keeps_close, keeps_cut}
use Rattle.b67_session.proofs.closes.close.Goals as goal

pub endings-dead-requires : goal.endings-dead-requires
endings-dead-requires g c = let r = c.requires.row in has_row r.storage r.told c.args.machine.now r.plan r.session r.member r.task c.args.chosen r.stands

pub with_stuck-all-requires-clause-head : goal.with_stuck-all-requires-clause-head
with_stuck-all-requires-clause-head g c = let r = c.requires.row in has_head r.storage r.told c.args.machine.now r.plan r.session r.member r.task c.args.chosen r.stands

pub with_stuck-all-requires-clause-seen : goal.with_stuck-all-requires-clause-seen
with_stuck-all-requires-clause-seen g c = c.goes_on-goes.ensures

pub end_family-requires-clause-some : goal.end_family-requires-clause-some
end_family-requires-clause-some g c =
    let r = c.requires.row in
    ends_family r.storage r.told c.args.machine.now r.plan r.session r.member r.task c.args.chosen r.stands c.put_endings.new.printed c.args.ending c.as_slice-gone.result.now
    (lent_list c.args.machine.now.tasks c.args.chosen.row c.args.ending c.endings-dead.result.items c.as_slice-gone.result.now c.endings-dead.ensures c.as_slice-gone.ensures.value r.plan r.session r.member r.task
    (holds r.storage r.told c.args.machine.now r.plan r.session r.member r.task c.args.chosen r.stands) r.stands.row)

pub end_stuck-requires-clause-job : goal.end_stuck-requires-clause-job
end_stuck-requires-clause-job g c =
    let r = c.requires.row in
    let k = c.args.machine.now in
    let list = c.as_slice-gone.result.now in
    let listed = lent_list k.tasks c.args.chosen.row c.args.ending c.endings-dead.result.items c.as_slice-gone.result.now c.endings-dead.ensures c.as_slice-gone.ensures.value r.plan r.session r.member r.task
    (holds r.storage r.told k r.plan r.session r.member r.task c.args.chosen r.stands) r.stands.row in
    has_job r.storage r.told k r.plan r.session r.member r.task c.args.chosen r.stands c.put_endings.new.printed c.args.ending c.end_family.new.machine
    (c.end_family.ensures.stands r.storage r.told r.plan r.session r.member r.task c.args.ending
    (is_family r.storage r.told k r.plan r.session r.member r.task c.args.chosen r.stands c.put_endings.new.printed c.args.ending list listed))

pub end_stuck-requires-clause-seen : goal.end_stuck-requires-clause-seen
end_stuck-requires-clause-seen g c =
    let r = c.requires.row in
    let k = c.args.machine.now in
    let list = c.as_slice-gone.result.now in
    let listed = lent_list k.tasks c.args.chosen.row c.args.ending c.endings-dead.result.items c.as_slice-gone.result.now c.endings-dead.ensures c.as_slice-gone.ensures.value r.plan r.session r.member r.task
    (holds r.storage r.told k r.plan r.session r.member r.task c.args.chosen r.stands) r.stands.row in
    goes_then r.storage r.told k r.plan r.session r.member r.task c.args.chosen r.stands c.put_endings.new.printed c.args.ending c.end_family.new.machine
    (c.end_family.ensures.stands r.storage r.told r.plan r.session r.member r.task c.args.ending
    (is_family r.storage r.told k r.plan r.session r.member r.task c.args.chosen r.stands c.put_endings.new.printed c.args.ending list listed))
    list c.goes_on-goes.result c.goes_on-goes.ensures listed

pub count_one-requires : goal.count_one-requires
count_one-requires g c = room_still c.args.machine.now.tasks c.end_stuck.new.machine.tasks c.args.chosen c.put_endings.new.printed
    (same_tasks c.args.machine.now.tasks c.end_family.new.machine.tasks c.end_stuck.new.machine.tasks c.put_endings.new.printed c.end_stuck.ensures.tasks c.end_family.ensures.tasks) c.requires.room

pub returns-clause-closes : goal.returns-clause-closes
returns-clause-closes g c = λ x told plan s m t w.
    (let k = c.args.machine.now in
    let listed = lent_list k.tasks c.args.chosen.row c.args.ending c.endings-dead.result.items c.as_slice-gone.result.now c.endings-dead.ensures c.as_slice-gone.ensures.value plan s m t (holds x told k plan s m t c.args.chosen w) w.row in
    let e = c.end_family.ensures.stands x told plan s m t c.args.ending (is_family x told k plan s m t c.args.chosen w c.put_endings.new.printed c.args.ending c.as_slice-gone.result.now listed) in
    let same = same_tasks k.tasks c.end_family.new.machine.tasks c.end_stuck.new.machine.tasks c.put_endings.new.printed c.end_stuck.ensures.tasks c.end_family.ensures.tasks in (
      subst (λ (l : List ℕ). TookRest g.K.Sink.taken c.args.paper.now c.put_endings.new.paper l k.tasks.printed)
          (all_text x told k plan s m t c.args.chosen w c.args.ending c.endings-dead.result.items c.as_slice-gone.result.now c.with_stuck-all.result.items c.as_slice.result.now
          (c.endings-dead.ensures plan s m t (holds x told k plan s m t c.args.chosen w) w.row) c.as_slice-gone.ensures.value c.with_stuck-all.ensures c.as_slice.ensures.value)
          c.in_ok-put_endings.ensures.whole,
      c.count_one.ensures.printed,
      c.count_one.ensures.made ∙ ap (λ (z : Tasks). z.made + 1) same,
      closed_by x told k plan s m t c.args.chosen w c.put_endings.new.printed c.args.ending c.end_family.new.machine e c.end_stuck.new.machine c.end_stuck.ensures.stands c.count_one.new.tasks c.count_one.ensures,
    ))

pub returns-in_err-put_endings-clause-closes : goal.returns-in_err-put_endings-clause-closes
returns-in_err-put_endings-clause-closes g c =
    let p = err_from_is_err_and c.from_residual.result c.from_residual.ensures.1 in
    rw p.1 (λ x told plan s m t w.
    (let k = c.args.machine.now in (
      subst (λ (l : List ℕ). TookMore g.K.Sink.taken c.args.paper.now c.put_endings.new.paper l k.tasks.printed c.put_endings.new.printed)
          (all_text x told k plan s m t c.args.chosen w c.args.ending c.endings-dead.result.items c.as_slice-gone.result.now c.with_stuck-all.result.items c.as_slice.result.now
          (c.endings-dead.ensures plan s m t (holds x told k plan s m t c.args.chosen w) w.row) c.as_slice-gone.ensures.value c.with_stuck-all.ensures c.as_slice.ensures.value)
          c.in_err-put_endings.ensures.part,
      refl,
    )))

pub returns-clause-keeps : goal.returns-clause-keeps
returns-clause-keeps g c =
    keeps_close c.args.chosen c.args.machine.now c.end_stuck.new.machine c.count_one.new.tasks c.put_endings.new.printed
    (same_tasks c.args.machine.now.tasks c.end_family.new.machine.tasks c.end_stuck.new.machine.tasks c.put_endings.new.printed c.end_stuck.ensures.tasks c.end_family.ensures.tasks)
    c.count_one.ensures (c.end_stuck.ensures.len ∙ c.end_family.ensures.len) (c.end_stuck.ensures.count ∙ c.end_family.ensures.count)

pub returns-in_err-put_endings-clause-keeps : goal.returns-in_err-put_endings-clause-keeps
returns-in_err-put_endings-clause-keeps g c = keeps_cut c.args.machine.now c.put_endings.new.printed
