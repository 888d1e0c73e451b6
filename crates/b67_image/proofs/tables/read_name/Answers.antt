use Rattle.std.proofs.lemmas.Result.{err_from_is_err_and}
use Rattle.b67_image.specs.Reading.{read_name}
use Rattle.b67_image.proofs.Steps.{fails, no_name, bad_name, good_name}
use Rattle.b67_image.proofs.tables.read_name.Goals as goal

pub returns-in_err-length : goal.returns-in_err-length
unfolding read_name
returns-in_err-length c = let p = err_from_is_err_and c.from_residual.result c.from_residual.ensures.1 in rw (p.1, p.2) (fails c.in_err-length.field-0.0 _ _ c.in_err-length.ensures)

pub returns-then-rest-length : goal.returns-then-rest-length
returns-then-rest-length c = no_name c.args.bytes.now c.in_ok-length.length c.from-length.result c.in_ok-length.rest.now c.in_ok-length.ensures c.from-length.ensures c.if-rest-length.true

pub returns-in-Some : goal.returns-in-Some
returns-in-Some c = good_name c.args.bytes.now c.in_ok-length.length c.from-length.result c.in_ok-length.rest.now c.in-Some.name c.in_ok-length.ensures c.from-length.ensures c.if-rest-length.false c.in-Some.ensures

pub returns-in-None : goal.returns-in-None
returns-in-None c = bad_name c.args.bytes.now c.in_ok-length.length c.from-length.result c.in_ok-length.rest.now c.in_ok-length.ensures c.from-length.ensures c.if-rest-length.false c.in-None.ensures
