use Rattle.std.specs.Int.{w32}
use Rattle.std.proofs.lemmas.Result.{err_from_is_err_and}
use Rattle.b67_image.specs.Giving.{read_number}
use Rattle.b67_image.proofs.NumberLoops.{goes_on, ends, is_done}
use Rattle.b67_image.proofs.links.many_links.Goals as goal

pub returns-in_err-link : goal.returns-in_err-link
returns-in_err-link c = let p = err_from_is_err_and c.from_residual.result c.from_residual.ensures.1 in rw (p.1, p.2) (ends (read_number w32) c.in_err-link.field-0.0 _ _ _ _ _ c.each-test.true c.in_err-link.ensures c.each.invariant)

pub each-preserved : goal.each-preserved
each-preserved c = rw c.in_ok-push.ensures.ok (goes_on (read_number w32) _ _ _ _ _ _ _ c.each-test.true c.in_ok-link.ensures c.each.invariant)

pub returns : goal.returns
returns c = is_done (read_number w32) _ _ _ _ _ c.each-test.false c.each.invariant
