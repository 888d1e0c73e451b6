use Rattle.std.proofs.Common.{[], Ok, arith}
use Rattle.b67_image.proofs.Chunks.{punched_none, punched_is, item_on, item_stop, items_end}
use Rattle.b67_image.specs.Spelling.{two_bytes}
use Rattle.b67_image.proofs.writing.put_critical.Goals as goal

pub each-init : goal.each-init
each-init g c = (omega arith, punched_none g.K.Sink.taken c.args.sink.now c.args.hand.now (omega (arith, c.len-held.ensures.len, c.len-held.ensures.small)))

pub each-preserved : goal.each-preserved
each-preserved g c = (
  omega (arith, c.each.invariant.0, c.in_ok-punch.ensures.cause.later),
  item_on (two_bytes) g.K.Sink.taken c.args.sink.now c.each.sink c.punch.new.sink c.args.hand.now c.each.hand c.punch.new.self ([]) c.args.places.now 0 c.each.n-index c.each-test.true c.each.invariant.1 (punched_is g.K.Sink.taken c.each.sink c.punch.new.sink c.each.hand c.punch.new.self (Ok tt) _ _ c.to_be_bytes.ensures c.in_ok-punch.ensures.row),
)

pub returns-in_err-punch-clause-row : goal.returns-in_err-punch-clause-row
returns-in_err-punch-clause-row g c = item_stop (two_bytes) g.K.Sink.taken c.args.sink.now c.each.sink c.punch.new.sink c.args.hand.now c.each.hand c.punch.new.self ([]) c.args.places.now 0 c.each.n-index c.from_residual.result _ c.from_residual.ensures.0 c.to_be_bytes.ensures c.each-test.true c.each.invariant.1 c.in_err-punch.ensures.row

pub returns-clause-row : goal.returns-clause-row
returns-clause-row g c = items_end (two_bytes) g.K.Sink.taken c.args.sink.now c.each.sink c.args.hand.now c.each.hand ([]) c.args.places.now c.each.n-index c.each-test.false c.each.invariant.1
