-- The peak that a slot raises.
use Rattle.std.specs.Prelude.{ℕ, ◌+◌, max}
use Rattle.b67_model.specs.Run.{live_tasks}
use Rattle.b67_model.specs.Schedule.{Session}

-- the peak once so many tasks more live
abbrev pub peak_with : Session → ℕ → ℕ
peak_with s more = max s.peak (live_tasks s.jobs + more)
