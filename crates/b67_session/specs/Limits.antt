-- Whether a job is at its limit, by the tables.
use Rattle.std.specs.Prelude.{◌≡◌, ◌-◌, ◌==◌, ◌≤◌, Bool, true, Some, slice_get}
use Rattle.b67_task.specs.declared.tables.JobRow.{JobRow}
use Rattle.b67_task.specs.declared.tables.Tasks.{Tasks}

-- whether the job that made the last operator has made as many as it may
pub record AtLimit (tasks : Tasks) (at : Bool) : Type 0 where
  pub is : (r : JobRow) → 1 ≤ tasks.last_job → slice_get tasks.jobs (tasks.last_job - 1) ≡ Some r → (r.made == r.limit) ≡ at
  pub there : at ≡ true → (r : JobRow) × (1 ≤ tasks.last_job) × (slice_get tasks.jobs (tasks.last_job - 1) ≡ Some r)
