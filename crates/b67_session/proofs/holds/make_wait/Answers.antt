use Rattle.std.proofs.Common.{sym, subst}
use Rattle.b67_task.specs.declared.tables.Tasks.{Tasks}
use Rattle.b67_task.specs.Runs.{Keeps}
use Rattle.b67_session.proofs.Closed.{room_still, keeps_close, keeps_cut}
use Rattle.b67_session.specs.Holds.{HoldsSome}
use Rattle.b67_session.proofs.Held.{inside, inside_set, set_head, rest_after, back_is, has_job, held_closed, held_cut}
use Rattle.b67_session.proofs.holds.make_wait.Goals as goal

pub set_state-before-requires : goal.set_state-before-requires
set_state-before-requires g c = inside c.args.machine.now c.args.chosen c.args.state c.requires.row

pub stuck-ended-requires-clause-head : goal.stuck-ended-requires-clause-head
stuck-ended-requires-clause-head g c = set_head c.args.machine.now c.args.chosen c.args.state c.requires.row c.set_state-before.new.tasks c.set_state-before.ensures.set

pub set_state-held-requires : goal.set_state-held-requires
set_state-held-requires g c = inside_set c.args.machine.now c.args.chosen c.args.state c.requires.row c.set_state-before.new.tasks c.set_state-before.ensures.set

pub stuck-ended-requires-clause-seen : goal.stuck-ended-requires-clause-seen
stuck-ended-requires-clause-seen g c = c.goes_on-goes.ensures

pub end_stuck-requires-clause-seen : goal.end_stuck-requires-clause-seen
end_stuck-requires-clause-seen g c = c.goes_on-goes.ensures

pub end_stuck-requires-clause-job : goal.end_stuck-requires-clause-job
end_stuck-requires-clause-job g c = has_job c.args.machine.now c.args.chosen c.args.state c.requires.row c.set_state-before.new.tasks c.set_state-before.ensures.set c.put_endings.new.printed

pub count_one-requires : goal.count_one-requires
count_one-requires g c =
    room_still c.args.machine.now.tasks c.end_stuck.new.machine.tasks c.args.chosen c.put_endings.new.printed
    (rest_after c.args.machine.now c.args.chosen c.args.state c.requires.row c.set_state-before.new.tasks c.set_state-before.ensures.set c.put_endings.new.printed c.end_stuck.new.machine c.end_stuck.ensures.tasks) c.requires.room

pub returns-clause-holds : goal.returns-clause-holds
returns-clause-holds g c = λ x told plan s m t condition w so.
    (let h : HoldsSome c.args.machine.now c.args.chosen c.args.state = record { storage = x; told = told; plan = plan; session = s; member = m; task = t; condition = condition; stands = w; so = so } in
    held_closed c.args.machine.now c.args.chosen c.args.state h c.set_state-before.new.tasks c.set_state-before.ensures.set g.K.Sink.taken c.args.paper.now c.put_endings.new.paper
    c.stuck-ended.result.items c.as_slice.result.now c.stuck-ended.ensures c.as_slice.ensures.value c.put_endings.new.printed c.in-Ok.ensures.whole c.end_stuck.new.machine c.end_stuck.ensures.stands c.end_stuck.ensures.tasks c.count_one.new.tasks c.count_one.ensures)

pub returns-in-Err-clause-holds : goal.returns-in-Err-clause-holds
returns-in-Err-clause-holds g c = λ x told plan s m t condition w so.
    (let h : HoldsSome c.args.machine.now c.args.chosen c.args.state = record { storage = x; told = told; plan = plan; session = s; member = m; task = t; condition = condition; stands = w; so = so } in
    let back = back_is c.args.machine.now c.args.chosen c.args.state h c.set_state-before.new.tasks c.set_state-before.ensures.set c.put_endings.new.printed c.set_state-before.result c.set_state-before.ensures.was c.set_state-held.new.tasks c.set_state-held.ensures.set in
    held_cut c.args.machine.now c.args.chosen c.args.state h c.set_state-before.new.tasks c.set_state-before.ensures.set g.K.Sink.taken c.args.paper.now c.put_endings.new.paper
    c.stuck-ended.result.items c.as_slice.result.now c.stuck-ended.ensures c.as_slice.ensures.value c.put_endings.new.printed c.in-Err.failed c.set_state-held.new.tasks back c.in-Err.ensures.part)

pub returns-clause-keeps : goal.returns-clause-keeps
returns-clause-keeps g c =
    keeps_close c.args.chosen c.args.machine.now c.end_stuck.new.machine c.count_one.new.tasks c.put_endings.new.printed
    (rest_after c.args.machine.now c.args.chosen c.args.state c.requires.row c.set_state-before.new.tasks c.set_state-before.ensures.set c.put_endings.new.printed c.end_stuck.new.machine c.end_stuck.ensures.tasks)
    c.count_one.ensures c.end_stuck.ensures.len c.end_stuck.ensures.count

pub returns-in-Err-clause-keeps : goal.returns-in-Err-clause-keeps
returns-in-Err-clause-keeps g c =
    let back = back_is c.args.machine.now c.args.chosen c.args.state c.requires.row c.set_state-before.new.tasks c.set_state-before.ensures.set c.put_endings.new.printed c.set_state-before.result c.set_state-before.ensures.was c.set_state-held.new.tasks c.set_state-held.ensures.set in
    subst (λ (z : Tasks). Keeps c.args.machine.now (record c.args.machine.now { tasks = z })) (sym back) (keeps_cut c.args.machine.now c.put_endings.new.printed)
