use Rattle.std.proofs.Common.{◌∙◌, length, Ok, refl, arith}
use Rattle.std.specs.List.{flat_map}
use Rattle.b67_image.proofs.Chunks.{punched_stop, punched_is, item_on, item_stop, items_end}
use Rattle.b67_image.specs.Spelling.{four_bytes, task_row_bytes}
use Rattle.b67_image.proofs.writing.put_rows.Goals as goal

pub each-preserved : goal.each-preserved
each-preserved g c = (
  omega (arith, c.each.invariant.0, c.in_ok-punch.ensures.cause.later),
  item_on (task_row_bytes) g.K.Sink.taken c.args.sink.now c.each.sink c.punch.new.sink c.args.hand.now c.each.hand c.punch.new.self (four_bytes (length c.args.rows.now)) c.args.rows.now _ c.each.row-index c.each-test.true c.each.invariant.1 (punched_is g.K.Sink.taken c.each.sink c.punch.new.sink c.each.hand c.punch.new.self (Ok tt) _ _ (c.as_slice.ensures ∙ c.row_item.ensures) c.in_ok-punch.ensures.row),
)

pub returns-in_err-punch-clause-row : goal.returns-in_err-punch-clause-row
returns-in_err-punch-clause-row g c = item_stop (task_row_bytes) g.K.Sink.taken c.args.sink.now c.each.sink c.punch.new.sink c.args.hand.now c.each.hand c.punch.new.self (four_bytes (length c.args.rows.now)) c.args.rows.now _ c.each.row-index c.from_residual-in_err-punch.result _ c.from_residual-in_err-punch.ensures.0 (c.as_slice.ensures ∙ c.row_item.ensures) c.each-test.true c.each.invariant.1 c.in_err-punch.ensures.row

pub returns-in_err-put_count-clause-row : goal.returns-in_err-put_count-clause-row
returns-in_err-put_count-clause-row g c = punched_stop g.K.Sink.taken c.args.sink.now c.put_count.new.sink c.args.hand.now c.put_count.new.hand c.from_residual.result (four_bytes (length c.args.rows.now)) _ (flat_map (task_row_bytes) c.args.rows.now) c.from_residual.ensures.0 refl c.in_err-put_count.ensures.row

pub returns-clause-row : goal.returns-clause-row
returns-clause-row g c = items_end (task_row_bytes) g.K.Sink.taken c.args.sink.now c.each.sink c.args.hand.now c.each.hand (four_bytes (length c.args.rows.now)) c.args.rows.now c.each.row-index c.each-test.false c.each.invariant.1
