use Rattle.std.proofs.Common.{◌∙◌, length, ap, arith}
use Rattle.b67_task.proofs.Turns.{running_in, noted_is, slots_stay, rests_after}
use Rattle.b67_task.proofs.switching.pause.Goals as goal

pub returns-clause-rests : goal.returns-clause-rests
returns-clause-rests c = λ x core marks plan s o h shows.
    let (r, at) = running_in c.args.tasks.now plan s shows c.if-tasks.false in
    rests_after c.args.tasks.now r at c.args.regs.now c.note.new.rows (noted_is c.args.tasks.now r at c.args.regs.now c.note.new.rows c.as_mut_slice.result.now c.as_mut_slice.ensures.value (c.note.ensures r))
    (c.note.auto.rows ∙ ap length c.as_mut_slice.ensures.value) x core marks plan s o h shows (omega (arith, c.as_mut_slice.ensures.fits, ap length c.as_mut_slice.ensures.value))

pub returns-clause-slots : goal.returns-clause-slots
returns-clause-slots c =
    let q = c.requires in
    let (r, at) = running_in c.args.tasks.now q.plan q.session q.shows c.if-tasks.false in
    slots_stay c.args.tasks.now r at c.args.regs.now c.note.new.rows (noted_is c.args.tasks.now r at c.args.regs.now c.note.new.rows c.as_mut_slice.result.now c.as_mut_slice.ensures.value (c.note.ensures r))
    (c.note.auto.rows ∙ ap length c.as_mut_slice.ensures.value)
