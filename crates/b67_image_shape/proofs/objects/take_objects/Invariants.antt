use Rattle.b67_image_shape.specs.ObjectMarks.{ObjectsClaim}
use Rattle.b67_image_shape.proofs.objects.take_objects.Given as goal

abbrev pub invariant-each : goal.invariant-each
invariant-each l = ObjectsClaim l.objects.core.now l.objects.low l.objects.kinds.now l.objects.links.now l.at l.claimed
