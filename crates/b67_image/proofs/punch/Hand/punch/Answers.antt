use Rattle.std.proofs.Common.{arith}
use Rattle.b67_image.proofs.Chunks.{punched_none, byte_on, byte_stop, bytes_end}
use Rattle.b67_image.proofs.punch.Hand.punch.Goals as goal

pub bytes-init : goal.bytes-init
bytes-init g c = (omega arith, punched_none g.K.Sink.taken c.args.sink.now c.args.self.now (omega (arith, c.len-held.ensures.len, c.len-held.ensures.small)))

pub bytes-preserved : goal.bytes-preserved
bytes-preserved g c = (
  omega (arith, c.bytes.invariant.0, c.in_ok-punch_one.ensures.cause.later),
  byte_on g.K.Sink.taken c.args.sink.now c.bytes.sink c.punch_one.new.sink c.args.self.now c.bytes.self c.punch_one.new.self c.args.bytes.now c.bytes.byte-index c.bytes-test.true c.bytes.invariant.1 c.in_ok-punch_one.ensures.row,
)

pub returns-in_err-punch_one-clause-row : goal.returns-in_err-punch_one-clause-row
returns-in_err-punch_one-clause-row g c = byte_stop g.K.Sink.taken c.args.sink.now c.bytes.sink c.punch_one.new.sink c.args.self.now c.bytes.self c.punch_one.new.self c.args.bytes.now c.bytes.byte-index c.from_residual.result c.from_residual.ensures.0 c.bytes-test.true c.bytes.invariant.1 c.in_err-punch_one.ensures.row

pub returns-clause-row : goal.returns-clause-row
returns-clause-row g c = bytes_end g.K.Sink.taken c.args.sink.now c.bytes.sink c.args.self.now c.bytes.self c.args.bytes.now c.bytes.byte-index c.bytes-test.false c.bytes.invariant.1
