use Rattle.std.proofs.Common.{map, sym, ◌∙◌, arith}
use Rattle.b67_task.specs.Tables.{job_row, counts_of}
use Rattle.b67_task.specs.Chosen.{who_is}
use Rattle.b67_task.proofs.Choices.{last_is, goes_on_at, lent_ready, ready_inside}
use Rattle.b67_task.proofs.choosing.last_row.Goals as goal

pub returns-then-lasts-clause-row : goal.returns-then-lasts-clause-row
returns-then-lasts-clause-row c = λ plan s o shows.
    let tasks = c.args.tasks.now in
    goes_on_at plan s o tasks.rows.items (map job_row tasks.jobs) (counts_of tasks) shows (who_is c.last_of.result) c.ready_row_near.result
    (c.last_of.ensures ∙ last_is plan s o tasks.rows.items (map job_row tasks.jobs) (counts_of tasks) shows) (sym (c.lasts.ensures plan s o shows) ∙ c.if-lasts.true)
    (lent_ready c.as_slice.result.now tasks.rows.items (who_is c.last_of.result) c.ready_row_near.result c.as_slice.ensures.value c.ready_row_near.ensures)

pub returns-then-lasts-clause-inside : goal.returns-then-lasts-clause-inside
returns-then-lasts-clause-inside c = grind (arith, ready_inside)
