use Rattle.b67_task.proofs.Choices.{chosen_by_switch, chosen_next}
use Rattle.b67_task.proofs.choosing.by_rules.Goals as goal

pub returns-in-Some : goal.returns-in-Some
returns-in-Some c = λ plan s o shows.
    chosen_by_switch s c.args.tasks.now.rows.items c.in-Some.row c.chosen_at.result (c.in-Some.ensures.row plan s o shows) c.chosen_at.ensures.who c.chosen_at.ensures.row

pub returns-in-Some-row_after : goal.returns-in-Some-row_after
returns-in-Some-row_after c = λ plan s o shows.
    chosen_next s c.args.tasks.now.rows.items c.in-Some-row_after.row c.chosen_at-in-Some-row_after.result (c.in-None.ensures.row plan s o shows) (c.in-None-last_row.ensures.row plan s o shows) (c.in-Some-row_after.ensures.row plan s o shows)
    c.chosen_at-in-Some-row_after.ensures.who c.chosen_at-in-Some-row_after.ensures.row
