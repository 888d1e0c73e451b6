use Rattle.b67_image_shape.proofs.NearStacks as near
use Rattle.b67_image_shape.proofs.walk_laws.stacks_are_near.Goals as goal

pub returns : goal.returns
returns c = near.stacks_are_near
