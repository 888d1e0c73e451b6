use Rattle.std.proofs.Common.{◌≡◌}
use Rattle.b67_layout_shown.specs.Machines.{sight_of}
use Rattle.b67_image_shape.specs.FixedTests.{all_below, base_test}
use Rattle.b67_image_shape.proofs.fixed_words.bases_stand.Given as goal

abbrev pub invariant-each : goal.invariant-each
invariant-each l = all_below (base_test (sight_of l.machine)) l.many ≡ all_below (base_test (sight_of l.machine)) l.n

abbrev pub decreases-each : goal.decreases-each
decreases-each l = l.n
