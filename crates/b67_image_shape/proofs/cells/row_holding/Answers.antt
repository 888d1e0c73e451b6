use Rattle.std.proofs.Common.{arith, refl, sym, ◌∙◌, map}
use Rattle.std.proofs.lemmas.List.{at_drop_all}
use Rattle.b67_layout_shown.specs.Machines.{sight_of}
use Rattle.b67_task.specs.Tables.{task_row}
use Rattle.b67_image_shape.specs.CellWalk.{row_holding}
use Rattle.b67_image_shape.proofs.CellTurns.{holding_step}
use Rattle.b67_image_shape.proofs.cells.row_holding.Goals as goal

pub each-init : goal.each-init
each-init c = refl

pub returns-then-is_in_slot : goal.returns-then-is_in_slot
returns-then-is_in_slot c = sym (holding_step (sight_of c.args.machine.now) c.args.rows.now c.args.at c.each.i _ _ c.each-test.true c.each.invariant (sym c.is_in_slot.ensures ∙ c.if-is_in_slot.true))

pub each-preserved : goal.each-preserved
each-preserved c = holding_step (sight_of c.args.machine.now) c.args.rows.now c.args.at c.each.i _ _ c.each-test.true c.each.invariant (sym c.is_in_slot.ensures ∙ c.if-is_in_slot.false)

pub returns : goal.returns
returns c = sym (c.each.invariant ∙ at_drop_all (λ xs. row_holding (sight_of c.args.machine.now) c.args.at (map task_row xs)) c.args.rows.now c.each.i (omega (arith, c.each-test.false)))
