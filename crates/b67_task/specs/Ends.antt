-- What endings make of a job, and of the plan.
use Rattle.std.specs.Prelude.{ℕ, ◌==◌, ◌&&◌, not, List, map, filter, Bool}
use Rattle.b67_model.specs.Common.{Task, Job, among, released, is_owned_by}
use Rattle.b67_layout.specs.Placement.{Placement, Slotted}

abbrev pub gone_of : Job → List ℕ → List Task
gone_of job numbers = filter (λ (t : Task). among numbers t.number) job.tasks

abbrev pub job_without : Job → List ℕ → Job
job_without job numbers = record job {
  tasks = map (λ (t : Task). record t { condition = released numbers t.condition }) (filter (λ (t : Task). not (among numbers t.number)) job.tasks);
  arrays = filter (λ a. not (is_owned_by (gone_of job numbers) a)) job.arrays;
}

abbrev pub row_stays : ℕ → List ℕ → Slotted → Bool
row_stays j numbers z = not ((z.job == j) && among numbers z.task)

abbrev pub rows_without : Placement → ℕ → List ℕ → List Slotted
rows_without plan j numbers = filter (row_stays j numbers) plan.rows
