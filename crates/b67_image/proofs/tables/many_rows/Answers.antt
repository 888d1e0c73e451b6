use Rattle.std.proofs.Common.{◌∷◌, [], length-append, refl, arith}
use Rattle.std.proofs.lemmas.Result.{err_from_is_err_and}
use Rattle.b67_image.specs.Reading.{read_row}
use Rattle.b67_image.proofs.NumberLoops.{begins, goes_on, ends, is_done}
use Rattle.b67_image.proofs.tables.many_rows.Goals as goal

pub each-init : goal.each-init
each-init c = rw c.new-rows.ensures (refl, begins read_row c.args.count c.args.bytes.now)

pub push-requires : goal.push-requires
push-requires c = omega (arith, c.each.invariant.0, c.each-test.true, c.requires)

pub returns-in_err-row : goal.returns-in_err-row
returns-in_err-row c = let p = err_from_is_err_and c.from_residual.result c.from_residual.ensures.1 in rw (p.1, p.2) (ends read_row c.in_err-row.field-0.0 _ _ _ _ _ c.each-test.true c.in_err-row.ensures c.each.invariant.1)

pub each-preserved : goal.each-preserved
each-preserved c = rw c.push.ensures.items (omega (arith, c.each.invariant.0, length-append c.each.rows.items (c.in_ok-row.row ∷ [])), goes_on read_row _ _ _ _ _ _ _ c.each-test.true c.in_ok-row.ensures c.each.invariant.1)

pub returns : goal.returns
returns c = is_done read_row _ _ _ _ _ c.each-test.false c.each.invariant.1
