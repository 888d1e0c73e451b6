use Rattle.b67_image_shape.proofs.WalkTurns.{IsWalkAt}
use Rattle.b67_image_shape.proofs.walk.walk_down.Given as goal

abbrev pub invariant-down : goal.invariant-down
invariant-down l = IsWalkAt l.core l.base l.slot l.segments l.turns l.top l.mark l.high l._turn l.level l.f l.s
