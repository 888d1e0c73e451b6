use Rattle.std.specs.Int.{w64}
use Rattle.std.proofs.lemmas.Int.{to_z-of_z}
use Rattle.std.proofs.lemmas.Result.{err_from_is_err_and}
use Rattle.b67_image.specs.Reading.{read_signed}
use Rattle.b67_image.proofs.Loops.{small_fits}
use Rattle.b67_image.proofs.NumberLoops.{goes_on, ends, is_done}
use Rattle.b67_image.proofs.tables.many_numbers.Goals as goal

pub returns-in_err-number : goal.returns-in_err-number
returns-in_err-number c = let p = err_from_is_err_and c.from_residual.result c.from_residual.ensures.1 in rw (p.1, p.2) (ends read_signed c.in_err-number.field-0.0 _ _ _ _ _ c.each-test.true c.in_err-number.ensures.row c.each.invariant)

pub each-preserved : goal.each-preserved
each-preserved c = rw (c.in_ok-push.ensures.ok, to_z-of_z w64 c.in_ok-number.number (small_fits c.in_ok-number.number c.in_ok-number.ensures.small)) (goes_on read_signed _ _ _ _ _ _ _ c.each-test.true c.in_ok-number.ensures.row c.each.invariant)

pub returns : goal.returns
returns c = is_done read_signed _ _ _ _ _ c.each-test.false c.each.invariant
