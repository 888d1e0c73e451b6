use Rattle.b67_layout_shown.specs.Machines.{sight_of}
use Rattle.b67_image_shape.proofs.StandTurns.{StandBelow}
use Rattle.b67_image_shape.proofs.walk_tasks.each_stands.Given as goal

abbrev pub invariant-each : goal.invariant-each
invariant-each l = StandBelow (sight_of l.machine) l.rows l.i
