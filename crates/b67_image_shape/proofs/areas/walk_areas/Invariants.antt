use Rattle.std.proofs.Common.{◌-◌, length}
use Rattle.b67_image_shape.specs.AreaWalk.{WalkedAreas}
use Rattle.b67_image_shape.proofs.areas.walk_areas.Given as goal

abbrev pub invariant-up : goal.invariant-up
invariant-up l = WalkedAreas l.core l.kinds l.low l.w l.housed

abbrev pub decreases-up : goal.decreases-up
decreases-up l = length l.core - l.w.at
