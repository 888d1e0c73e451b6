use Rattle.std.proofs.Common.{arith}
use Rattle.std.proofs.lemmas.Result.{err_from_is_err_and}
use Rattle.b67_io.proofs.Joined.{Took-next, slice_within, Took-kept}
use Rattle.b67_image.proofs.punch.put_text.Goals as goal

pub put-preserved : goal.put-preserved
put-preserved g c =
    (slice_within c.args.text.now c.put.done _ c.put.invariant.0 c.in_ok-done.ensures.count.1, omega (arith, c.in_ok-done.ensures.cause.later), Took-next c.args.text.now c.put.done _ c.put.invariant.2 c.in_ok-done.ensures.bytes)

pub returns-in_err-done-clause-part : goal.returns-in_err-done-clause-part
returns-in_err-done-clause-part g c = let p = err_from_is_err_and c.from_residual.result c.from_residual.ensures.1 in rw p.1 (record { count = c.put.done; proper = c.put-test.true; first = Took-kept c.put.invariant.2 c.in_err-done.ensures.bytes })
