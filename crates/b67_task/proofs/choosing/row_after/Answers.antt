use Rattle.std.proofs.Common.{map, length, ◌∙◌, arith}
use Rattle.b67_task.specs.Tables.{job_row, counts_of}
use Rattle.b67_task.specs.Chosen.{who_is}
use Rattle.b67_task.proofs.Choices.{last_is, next_at, lent_next, next_inside}
use Rattle.b67_task.proofs.choosing.row_after.Goals as goal

pub returns-clause-row : goal.returns-clause-row
returns-clause-row c = λ plan s o shows.
    let tasks = c.args.tasks.now in
    next_at plan s o tasks.rows.items (map job_row tasks.jobs) (counts_of tasks) shows (length tasks.rows.items) (omega arith) (who_is c.last_of.result) c.next_row_near.result
    (c.last_of.ensures ∙ last_is plan s o tasks.rows.items (map job_row tasks.jobs) (counts_of tasks) shows)
    (lent_next c.as_slice.result.now tasks.rows.items (who_is c.last_of.result) c.next_row_near.result c.as_slice.ensures.value c.next_row_near.ensures)

pub returns-clause-inside : goal.returns-clause-inside
returns-clause-inside c = grind (arith, next_inside)
