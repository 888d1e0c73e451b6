use Rattle.std.proofs.Common.{ap, ◌∙◌, sym}
use Rattle.b67_job.specs.Admitting.{prepared}
use Rattle.b67_job.proofs.Loads.{with_them, without_them}
use Rattle.b67_job.proofs.admission.prepare.Goals as goal

pub returns-in-Ok : goal.returns-in-Ok
returns-in-Ok c = with_them c.args.deck _ (ap prepared (sym c.as_slice.ensures) ∙ c.in-Ok.ensures)

pub returns-in-Err : goal.returns-in-Err
returns-in-Err c = without_them c.args.deck c.in-Err.fault (rw c.as_slice.ensures at c.in-Err.ensures)
