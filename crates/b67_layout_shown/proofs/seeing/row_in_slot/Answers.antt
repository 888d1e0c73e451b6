use Rattle.std.proofs.Common.{sym, ◌∙◌, arith}
use Rattle.b67_task.specs.declared.tables.TaskRow.{TaskRow}
use Rattle.b67_layout_shown.proofs.Tops.{all_ahead, here, further, none_left, slot_mapped}
use Rattle.b67_layout_shown.proofs.seeing.row_in_slot.Goals as goal

pub each-init : goal.each-init
each-init c = all_ahead (λ (r : TaskRow). r.slot) c.args.rows.now c.args.slot

pub returns-then-from-slot : goal.returns-then-from-slot
returns-then-from-slot c = slot_mapped c.args.rows.now c.args.slot _ (here (λ (r : TaskRow). r.slot) c.args.rows.now c.args.slot c.each.row-index _ c.each.invariant c.each-test.true (sym c.from.ensures ∙ c.if-from-slot.true))

pub each-preserved : goal.each-preserved
each-preserved c = further (λ (r : TaskRow). r.slot) c.args.rows.now c.args.slot c.each.row-index _ c.each.invariant c.each-test.true (λ e. c.if-from-slot.false (c.from.ensures ∙ e))

pub returns : goal.returns
returns c = slot_mapped c.args.rows.now c.args.slot _ (none_left (λ (r : TaskRow). r.slot) c.args.rows.now c.args.slot c.each.row-index c.each.invariant (omega (arith, c.each-test.false)))
