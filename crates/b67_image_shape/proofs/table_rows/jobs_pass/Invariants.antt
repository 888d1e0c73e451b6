use Rattle.std.proofs.Common.{◌≡◌, ◌+◌, ◌≤◌, length, map}
use Rattle.b67_task.specs.Tables.{task_row, job_row}
use Rattle.b67_image_shape.specs.TableTests.{job_test, jobs_pass}
use Rattle.b67_image_shape.proofs.table_rows.jobs_pass.Given as goal

abbrev pub invariant-each : goal.invariant-each
invariant-each l = (jobs_pass (job_test (map task_row l.rows)) 1 (map job_row l.jobs) ≡ jobs_pass (job_test (map task_row l.rows)) l.job (map job_row l.left)) × (l.job + length l.left ≤ 9)

abbrev pub decreases-each : goal.decreases-each
decreases-each l = length l.left
