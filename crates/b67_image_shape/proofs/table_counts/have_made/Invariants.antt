use Rattle.std.proofs.Common.{◌≡◌, ◌==◌, length, map}
use Rattle.b67_lemmas.specs.Lists.{total}
use Rattle.b67_layout.specs.Rows as rows
use Rattle.b67_task.specs.Tables.{job_row}
use Rattle.b67_image_shape.proofs.table_counts.have_made.Given as goal

abbrev pub invariant-each : goal.invariant-each
invariant-each l = (l.made == total (λ (r : rows.JobRow). r.made) (map job_row l.jobs)) ≡ (l.rest == total (λ (r : rows.JobRow). r.made) (map job_row l.left))

abbrev pub decreases-each : goal.decreases-each
decreases-each l = length l.left
