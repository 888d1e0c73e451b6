use Rattle.std.proofs.Common.{map, sym, ap, arith}
use Rattle.b67_layout_shown.specs.Machines.{sight_of}
use Rattle.b67_task.specs.Tables.{task_row, job_row}
use Rattle.b67_image_shape.proofs.StandTurns.{job_some, job_inside, room_inside, stand_next, all_stand, one_falls}
use Rattle.b67_image_shape.proofs.walk_tasks.each_stands.Goals as goal

pub each-init : goal.each-init
each-init c = λ n h. absurd (omega (arith, h))

pub overflow_sub-job : goal.overflow_sub-job
overflow_sub-job c = job_some (sight_of c.args.machine.now) c.args.rows.now c.args.jobs.now (sym (ap (map task_row) c.requires.rows)) (sym (ap (map job_row) c.requires.jobs)) c.requires.tables c.args.machine.now.areas.low c.args.machine.now.areas.size c.requires.fixed c.each.i _ c.each-test.true

pub bounds-jobs-at : goal.bounds-jobs-at
bounds-jobs-at c = job_inside (sight_of c.args.machine.now) c.args.rows.now c.args.jobs.now (sym (ap (map task_row) c.requires.rows)) (sym (ap (map job_row) c.requires.jobs)) c.requires.tables c.args.machine.now.areas.low c.args.machine.now.areas.size c.requires.fixed c.each.i _ c.each-test.true

pub task_stands-requires-clause-inside : goal.task_stands-requires-clause-inside
task_stands-requires-clause-inside c = room_inside (sight_of c.args.machine.now) c.args.rows.now c.args.jobs.now (sym (ap (map task_row) c.requires.rows)) (sym (ap (map job_row) c.requires.jobs)) c.requires.tables c.args.machine.now.areas.low c.args.machine.now.areas.size c.requires.fixed c.each.i _ c.each-test.true

pub task_stands-requires-clause-room : goal.task_stands-requires-clause-room
task_stands-requires-clause-room c = c.requires.fixed.stack_high

pub returns-then-not-task_stands-clause-not : goal.returns-then-not-task_stands-clause-not
returns-then-not-task_stands-clause-not c = one_falls (sight_of c.args.machine.now) c.args.rows.now c.args.jobs.now (sym (ap (map task_row) c.requires.rows)) (sym (ap (map job_row) c.requires.jobs)) c.requires.tables c.args.machine.now.areas.low c.args.machine.now.areas.size c.requires.fixed c.each.i _ c.index-jobs-at.result c.each-test.true c.index-jobs-at.is c.if-not-task_stands.ensures.not

pub each-preserved : goal.each-preserved
each-preserved c = stand_next (sight_of c.args.machine.now) c.args.rows.now c.args.jobs.now (sym (ap (map task_row) c.requires.rows)) (sym (ap (map job_row) c.requires.jobs)) c.requires.tables c.args.machine.now.areas.low c.args.machine.now.areas.size c.requires.fixed c.each.i _ c.index-jobs-at.result c.each-test.true c.index-jobs-at.is c.each.invariant c.if-not-task_stands.ensures.yes

pub returns-clause-yes : goal.returns-clause-yes
returns-clause-yes c = all_stand (sight_of c.args.machine.now) c.args.rows.now c.args.jobs.now (sym (ap (map task_row) c.requires.rows)) (sym (ap (map job_row) c.requires.jobs)) c.requires.tables c.args.machine.now.areas.low c.args.machine.now.areas.size c.requires.fixed (λ n h. c.each.invariant n (omega (arith, h, c.each-test.false)))
