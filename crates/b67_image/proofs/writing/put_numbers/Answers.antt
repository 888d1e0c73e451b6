use Rattle.std.proofs.Common.{◌∙◌, length, Ok, refl, sym, ap, arith}
use Rattle.std.specs.List.{flat_map}
use Rattle.std.specs.Int.{w64, cast_unsigned}
use Rattle.std.proofs.lemmas.Int.{to_z-of_z}
use Rattle.std.proofs.lemmas.Option.{get_or_from_slice_get}
use Rattle.b67_image.proofs.Chunks.{punched_stop, punched_is, item_on, item_stop, items_end}
use Rattle.b67_image.specs.Spelling.{four_bytes, eight_bytes, signed_bytes}
use Rattle.b67_image.proofs.writing.put_numbers.Goals as goal

pub each-preserved : goal.each-preserved
each-preserved g c = (
  omega (arith, c.each.invariant.0, c.in_ok-punch.ensures.cause.later),
  item_on (signed_bytes) g.K.Sink.taken c.args.sink.now c.each.sink c.punch.new.sink c.args.hand.now c.each.hand c.punch.new.self (four_bytes (length c.args.numbers.now)) c.args.numbers.now c.read_number-number.result c.each.at c.each-test.true c.each.invariant.1 (punched_is g.K.Sink.taken c.each.sink c.punch.new.sink c.each.hand c.punch.new.self (Ok tt) _ _ (c.to_be_bytes.ensures ∙ ap eight_bytes (c.cast_unsigned.ensures ∙ ap (cast_unsigned w64) (to_z-of_z w64 c.read_number-number.result (record { sfits = c.read_number-number.type_inv })) ∙ ap (cast_unsigned w64) (sym (get_or_from_slice_get c.args.numbers.now c.each.at c.read_number-number.result c.read_number-number.result c.read_number-number.ensures)))) c.in_ok-punch.ensures.row),
)

pub returns-in_err-punch-clause-row : goal.returns-in_err-punch-clause-row
returns-in_err-punch-clause-row g c = item_stop (signed_bytes) g.K.Sink.taken c.args.sink.now c.each.sink c.punch.new.sink c.args.hand.now c.each.hand c.punch.new.self (four_bytes (length c.args.numbers.now)) c.args.numbers.now c.read_number-number.result c.each.at c.from_residual-in_err-punch.result _ c.from_residual-in_err-punch.ensures.0 (c.to_be_bytes.ensures ∙ ap eight_bytes (c.cast_unsigned.ensures ∙ ap (cast_unsigned w64) (to_z-of_z w64 c.read_number-number.result (record { sfits = c.read_number-number.type_inv })) ∙ ap (cast_unsigned w64) (sym (get_or_from_slice_get c.args.numbers.now c.each.at c.read_number-number.result c.read_number-number.result c.read_number-number.ensures)))) c.each-test.true c.each.invariant.1 c.in_err-punch.ensures.row

pub returns-in_err-put_count-clause-row : goal.returns-in_err-put_count-clause-row
returns-in_err-put_count-clause-row g c = punched_stop g.K.Sink.taken c.args.sink.now c.put_count.new.sink c.args.hand.now c.put_count.new.hand c.from_residual.result (four_bytes (length c.args.numbers.now)) _ (flat_map (signed_bytes) c.args.numbers.now) c.from_residual.ensures.0 refl c.in_err-put_count.ensures.row

pub returns-clause-row : goal.returns-clause-row
returns-clause-row g c = items_end (signed_bytes) g.K.Sink.taken c.args.sink.now c.each.sink c.args.hand.now c.each.hand (four_bytes (length c.args.numbers.now)) c.args.numbers.now c.each.at c.each-test.false c.each.invariant.1
