use Rattle.std.proofs.Common.{Some, None, map, arith}
use Rattle.b67_task.specs.Tables.{job_row, counts_of}
use Rattle.b67_task.specs.Chosen.{who_is}
use Rattle.b67_task.proofs.Choices.{rises_there, switched_at, switched_none, lent_named, lent_ready, ready_inside}
use Rattle.b67_task.proofs.choosing.switched_row.Goals as goal

pub returns-in-Some-clause-row : goal.returns-in-Some-clause-row
returns-in-Some-clause-row c = λ plan s o shows.
    let tasks = c.args.tasks.now in
    let named = lent_named c.as_slice.result.now tasks.switches tasks.next_switch tasks.made (Some (who_is c.in-Some.who)) c.as_slice.ensures c.in-Some.ensures
    (rises_there plan s o tasks.rows.items (map job_row tasks.jobs) (counts_of tasks) shows) shows.counts.past in
    switched_at plan s o tasks.rows.items (map job_row tasks.jobs) (counts_of tasks) shows (who_is c.in-Some.who) c.ready_row.result named
    (lent_ready c.as_slice-in-Some.result.now tasks.rows.items (who_is c.in-Some.who) c.ready_row.result c.as_slice-in-Some.ensures.value c.ready_row.ensures)

pub returns-in-Some-clause-inside : goal.returns-in-Some-clause-inside
returns-in-Some-clause-inside c = grind (arith, ready_inside)

pub returns-in-None-clause-row : goal.returns-in-None-clause-row
returns-in-None-clause-row c = λ plan s o shows.
    let tasks = c.args.tasks.now in
    let named = lent_named c.as_slice.result.now tasks.switches tasks.next_switch tasks.made None c.as_slice.ensures c.in-None.ensures
    (rises_there plan s o tasks.rows.items (map job_row tasks.jobs) (counts_of tasks) shows) shows.counts.past in
    switched_none plan s o tasks.rows.items (map job_row tasks.jobs) (counts_of tasks) shows named
