use Rattle.std.proofs.Common.{length, arith}
use Rattle.std.specs.Int.{w16}
use Rattle.std.proofs.lemmas.Result.{err_from_is_err_and}
use Rattle.b67_image.specs.Giving.{read_number, read_many}
use Rattle.b67_image.proofs.NumberLoops.{begins, writes_on, ends, written}
use Rattle.b67_image.proofs.parts.read_critical.Goals as goal

pub each-init : goal.each-init
each-init c = begins (read_number w16) (length c.args.into.now) c.args.bytes.now

pub each-preserved : goal.each-preserved
each-preserved c = writes_on (read_number w16) c.each.into (length c.args.into.now) c.each.at c.each.rest.now _ _ (read_many (read_number w16) (length c.args.into.now) c.args.bytes.now) c.each-test.true (omega (arith, c.each-test.true, c.each.auto.into)) c.in_ok-number.ensures c.each.invariant

pub returns-in_err-number : goal.returns-in_err-number
returns-in_err-number c = let p = err_from_is_err_and c.from_residual.result c.from_residual.ensures.1 in rw (p.1, p.2) (ends (read_number w16) c.in_err-number.field-0.0 _ _ _ _ _ c.each-test.true c.in_err-number.ensures c.each.invariant)

pub returns : goal.returns
returns c = written (read_number w16) c.each.into (length c.args.into.now) c.each.at _ _ c.each-test.false (omega (arith, c.each-test.false, c.each.auto.into)) c.each.invariant
