use Rattle.std.proofs.Common.{map, arith, ◌∙◌}
use Rattle.std.proofs.lemmas.List.{length-set}
use Rattle.b67_task.specs.Tables.{task_row}
use Rattle.b67_layout_shown.specs.Machines.{sight_of}
use Rattle.b67_image_shape.specs.TableFacts.{row_in_slot}
use Rattle.b67_image_shape.specs.TableMarks.{end_by}
use Rattle.b67_image_shape.proofs.TableTurns.{filled_next}
use Rattle.b67_image_shape.proofs.table.ends_of.Goals as goal

pub each-preserved : goal.each-preserved
each-preserved c =
    let (many, before) = c.each.invariant in (
      length-set c.each.ends.items c.each.slot c.end_of.result ∙ many,
      filled_next (λ n. end_by (sight_of c.args.machine.now) (row_in_slot (map task_row c.args.machine.now.tasks.rows.items) n)) c.each.ends.items c.each.slot c.end_of.result (omega (arith, many, c.each-test.true)) before c.end_of.ensures,
    )

pub returns : goal.returns
returns c = let (many, before) = c.each.invariant in (many, λ n h. before n (omega (arith, h, c.each-test.false)))
