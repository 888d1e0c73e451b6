use Rattle.std.proofs.Common.{◌∙◌, length, Ok, sym, ap, arith}
use Rattle.std.specs.List.{flat_map}
use Rattle.std.proofs.lemmas.Option.{get_or_from_slice_get}
use Rattle.b67_image.proofs.Chunks.{punched_stop, punched_is, item_on, item_stop}
use Rattle.b67_image.specs.Spelling.{four_bytes, eight_bytes, tagged_bytes}
use Rattle.b67_image.proofs.writing.put_core.Goals as goal

pub returns-in_err-put_count-clause-row : goal.returns-in_err-put_count-clause-row
returns-in_err-put_count-clause-row g c = punched_stop g.K.Sink.taken c.args.sink.now c.put_count.new.sink c.args.hand.now c.put_count.new.hand c.from_residual.result (four_bytes (length c.args.core.now)) _ (flat_map tagged_bytes c.args.core.now) c.from_residual.ensures.0 (ap four_bytes c.size-size.ensures.value) c.in_err-put_count.ensures.row

pub words-preserved : goal.words-preserved
words-preserved g c = (
  omega (arith, c.words.invariant.0, c.in_ok-punch.ensures.cause.later),
  item_on tagged_bytes g.K.Sink.taken c.args.sink.now c.words.sink c.punch.new.sink c.args.hand.now c.words.hand c.punch.new.self (four_bytes (length c.args.core.now)) c.args.core.now c.get.result c.words.at (omega (arith, c.words-test.true, c.size-size.ensures.value)) c.words.invariant.1 (punched_is g.K.Sink.taken c.words.sink c.punch.new.sink c.words.hand c.punch.new.self (Ok tt) _ _ (c.to_be_bytes.ensures ∙ ap eight_bytes c.to_number.ensures ∙ ap tagged_bytes (sym (get_or_from_slice_get c.args.core.now c.words.at c.get.result c.get.result c.get.ensures))) c.in_ok-punch.ensures.row),
)

pub returns-in_err-punch-clause-row : goal.returns-in_err-punch-clause-row
returns-in_err-punch-clause-row g c = item_stop tagged_bytes g.K.Sink.taken c.args.sink.now c.words.sink c.punch.new.sink c.args.hand.now c.words.hand c.punch.new.self (four_bytes (length c.args.core.now)) c.args.core.now c.get.result c.words.at c.from_residual-in_err-punch.result _ c.from_residual-in_err-punch.ensures.0 (c.to_be_bytes.ensures ∙ ap eight_bytes c.to_number.ensures ∙ ap tagged_bytes (sym (get_or_from_slice_get c.args.core.now c.words.at c.get.result c.get.result c.get.ensures))) (omega (arith, c.words-test.true, c.size-size.ensures.value)) c.words.invariant.1 c.in_err-punch.ensures.row
