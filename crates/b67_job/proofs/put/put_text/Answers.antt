use Rattle.std.proofs.Common.{arith}
use Rattle.b67_io.proofs.Joined.{Took-next, slice_within, Took-kept}
use Rattle.b67_job.proofs.put.put_text.Goals as goal

pub put-preserved : goal.put-preserved
put-preserved g c =
    (slice_within c.args.text.now c.put.done c.in-Ok.k c.put.invariant.0 c.in-Ok.ensures.count.1, omega (arith, c.in-Ok.ensures.cause.later), Took-next c.args.text.now c.put.done c.in-Ok.k c.put.invariant.2 c.in-Ok.ensures.bytes)

pub returns-in-Err-clause-part : goal.returns-in-Err-clause-part
returns-in-Err-clause-part g c = (c.put-test.true, Took-kept c.put.invariant.2 c.in-Err.ensures.bytes)
