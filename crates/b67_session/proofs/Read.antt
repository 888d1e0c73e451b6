-- The operator that was read at the running place.
use Rattle.std.proofs.Common.{◌≡◌, sym, ap}
use Rattle.b67_model.specs.Common.{Reading, reading_of, step_by, step, Task, SessionJob}

-- the step is the row of what was read
pub step_read : (m : SessionJob) (t : Task) (read : Reading) → read ≡ reading_of m.constants t → step m.constants m.progress.job t ≡ step_by m.constants m.progress.job t read
unfolding step
step_read m t read e = ap (step_by m.constants m.progress.job t) (sym e)
