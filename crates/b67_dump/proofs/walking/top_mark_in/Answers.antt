use Rattle.std.proofs.Common.{List, map, ◌∙◌, ap}
use Rattle.b67_task.specs.declared.tables.TaskRow.{TaskRow}
use Rattle.b67_task.specs.Tables.{task_row}
use Rattle.b67_layout.specs.Rows as rows
use Rattle.b67_model.specs.Keyed.{keyed}
use Rattle.b67_layout_shown.specs.Machines.{sight_of}
use Rattle.b67_dump.specs.Walk.{top_mark_by}
use Rattle.b67_dump.proofs.walking.top_mark_in.Goals as goal

pub returns-in-Some : goal.returns-in-Some
returns-in-Some c =
    c.top_of.ensures.f ∙ ap (top_mark_by (sight_of c.args.machine.now)) (c.in-Some.ensures ∙ ap (λ (xs : List TaskRow). keyed (λ (r : rows.TaskRow). r.slot) c.args.slot (map task_row xs)) c.as_slice.ensures.value)

pub returns-in-None : goal.returns-in-None
returns-in-None c =
    ap (top_mark_by (sight_of c.args.machine.now)) (c.in-None.ensures ∙ ap (λ (xs : List TaskRow). keyed (λ (r : rows.TaskRow). r.slot) c.args.slot (map task_row xs)) c.as_slice.ensures.value)
