use Rattle.std.proofs.lemmas.Result.{err_from_is_err_and}
use Rattle.b67_codefile.specs.declared.file.Codefile.{Codefile}
use Rattle.b67_load.proofs.Least.{finds, tells_least}
use Rattle.b67_load.proofs.admission.verify.Goals as goal

pub returns-in_err-check-clause-exact : goal.returns-in_err-check-clause-exact
returns-in_err-check-clause-exact c =
    let p = err_from_is_err_and c.from_residual.result c.from_residual.ensures.1 in
    rw (p.1, p.2) (finds (Unit {0}) Codefile _ _ c.in_err-check.ensures)

pub returns-in_err-check-clause-least : goal.returns-in_err-check-clause-least
returns-in_err-check-clause-least c =
    let p = err_from_is_err_and c.from_residual.result c.from_residual.ensures.1 in
    rw (p.1, p.2) (tells_least (Unit {0}) _ _ c.in_err-check.ensures)
