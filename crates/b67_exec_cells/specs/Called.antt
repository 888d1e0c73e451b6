-- The intrinsic that the operator at a task's place calls.
use Rattle.std.specs.Prelude.{ℕ, Option, None, Ok, Err}
use Rattle.b67_model.specs.Common.{Task, SessionJob, Reading, reading_of, called}
use Rattle.b67_layout.specs.Meets.{here}

-- the intrinsic that an operator calls that was read, if it calls one; and the operator at the running place
abbrev pub called_by_reading : SessionJob → Task → Reading → Option ℕ
called_by_reading m t (Err why) = None
called_by_reading m t (Ok read) = called read.0 (here m t read.1)

abbrev pub called_in : SessionJob → Task → Option ℕ
called_in m t = called_by_reading m t (reading_of m.constants t)
