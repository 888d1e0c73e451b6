use Rattle.std.proofs.Common.{◌≡◌, ◌+◌, ◌-◌, ◌<◌, ◌≤◌, List, Some, slice_get, ap, ◌∙◌, subst, arith}
use Rattle.b67_task.specs.declared.tables.JobRow.{JobRow}
use Rattle.b67_task.specs.declared.tables.TaskRow.{TaskRow}
use Rattle.b67_task.specs.Chosen.{IsReadyAt}
use Rattle.b67_task.proofs.Lasting.{turn_lasts, leave_fewer}
use Rattle.b67_task.proofs.turn_length.turn_room.Goals as goal

pub returns-then-not-runs_on-clause-few : goal.returns-then-not-runs_on-clause-few
returns-then-not-runs_on-clause-few c = omega arith

pub returns-then-not-runs_on-clause-halt : goal.returns-then-not-runs_on-clause-halt
returns-then-not-runs_on-clause-halt c = λ j low. absurd (omega (arith, low))

pub returns-then-not-runs_on-clause-lasts : goal.returns-then-not-runs_on-clause-lasts
returns-then-not-runs_on-clause-lasts c = λ plan s o shows some. absurd (omega (arith, some))

pub returns-clause-few : goal.returns-clause-few
returns-clause-few c = omega (arith, c.min.ensures, c.min-2.ensures, c.before_halt-halt.ensures.few)

pub returns-clause-halt : goal.returns-clause-halt
returns-clause-halt c = λ j low. c.before_halt-halt.ensures.halt j (omega (arith, low, c.min.ensures, c.min-2.ensures))

pub returns-clause-lasts : goal.returns-clause-lasts
returns-clause-lasts c = λ plan s o shows some.
    let tasks = c.args.tasks.now in
    let room = c.min-2.result in
    let rules = c.before_choice-rules.result in
    let there : IsReadyAt tasks.rows.items tasks.running (record { job = tasks.last_job; task = tasks.last_number }) =
    subst (λ (rs : List TaskRow). IsReadyAt rs tasks.running (record { job = tasks.last_job; task = tasks.last_number })) c.as_slice.ensures.value (c.runs_on.ensures c.if-not-runs_on.false) in
    let limit : (r : JobRow) → 1 ≤ tasks.last_job → slice_get tasks.jobs (tasks.last_job - 1) ≡ Some r → r.made + room < r.limit = λ r low at.
    let all = c.before_limit-limit.ensures r low (ap (λ (rs : List JobRow). slice_get rs (tasks.last_job - 1)) c.as_slice-2.ensures ∙ at) (omega (arith, some, c.min.ensures, c.min-2.ensures)) in
    omega (arith, all, c.min.ensures, c.min-2.ensures) in
    turn_lasts plan s o tasks shows room there limit (leave_fewer s rules room (omega (arith, c.min-2.ensures)) (c.before_choice-rules.ensures plan s o shows (omega (arith, some, c.min-2.ensures))))
