use Rattle.std.proofs.Common.{◌≡◌, ◌<◌, ◌^◌, length, map}
use Rattle.b67_task.specs.Tables.{job_row}
use Rattle.b67_image_shape.specs.FixedTests.{dictionaries_test}
use Rattle.b67_image_shape.proofs.fixed_words.dictionaries_stand.Given as goal

abbrev pub invariant-each : goal.invariant-each
invariant-each l = (dictionaries_test l.core l.stacks 160 (map job_row l.jobs) ≡ dictionaries_test l.core l.stacks l.at (map job_row l.left)) × (l.at < 2 ^ 33)

abbrev pub decreases-each : goal.decreases-each
decreases-each l = length l.left
