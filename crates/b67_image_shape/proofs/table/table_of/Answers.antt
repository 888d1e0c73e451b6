use Rattle.std.proofs.Common.{arith, ◌∙◌}
use Rattle.std.proofs.lemmas.List.{length-set}
use Rattle.b67_layout_shown.specs.Machines.{sight_of}
use Rattle.b67_image_shape.specs.ObjectTable.{mark_at}
use Rattle.b67_image_shape.proofs.TableTurns.{filled_next}
use Rattle.b67_image_shape.proofs.table.table_of.Goals as goal

pub each-preserved : goal.each-preserved
each-preserved c =
    let (many, before) = c.each.invariant in (
      length-set c.each.kinds.items c.each.at c.mark_of.result ∙ many,
      filled_next (mark_at (sight_of c.args.machine.now)) c.each.kinds.items c.each.at c.mark_of.result (omega (arith, many, c.each-test.true, c.size-at-end.ensures.value)) before c.mark_of.ensures,
    )

pub returns : goal.returns
returns c = let (many, before) = c.each.invariant in record { many = many; marks = λ i h. before i (omega (arith, h, c.each-test.false, c.size-at-end.ensures.value)) }
