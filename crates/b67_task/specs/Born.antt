-- The plan once a task was started.
use Rattle.std.specs.Prelude.{ℕ, ◌∷◌}
use Rattle.b67_layout.specs.Placement.{Placement}

-- the plan with a live task more, of a job and with a number, in slot k, where so many slots were used so far
abbrev pub with_task_at : Placement → ℕ → ℕ → ℕ → ℕ → Placement
with_task_at plan j number k peak = record plan { rows = record { job = j; task = number; slot = k } ∷ plan.rows; peak = peak }

-- the plan in which so many slots were used so far
abbrev pub with_peak : Placement → ℕ → Placement
with_peak plan n = record plan { peak = n }
