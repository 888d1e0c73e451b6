use Rattle.b67_image_shape.proofs.ReachDecided.{reaches_decided}
use Rattle.b67_image_shape.proofs.reach.reaches_are_decided.Goals as goal

pub returns : goal.returns
returns c = reaches_decided c.reach_is_seen.ensures
