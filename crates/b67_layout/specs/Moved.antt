-- A task that goes on at another place, and the peak that a slot raises.
use Rattle.std.specs.Prelude.{ℕ}
use Rattle.b67_model.specs.Common.{Job, SessionJob, Session}
use Rattle.b67_layout.specs.Meets.{with_job}
use Rattle.b67_layout.specs.Peaks.{peak_with}

-- the session with another job of a member, whose tasks count for the peak
abbrev pub session_moved : Session → SessionJob → Job → ℕ → Session
session_moved s m job more = record (with_job s m job) { peak = peak_with s more }
