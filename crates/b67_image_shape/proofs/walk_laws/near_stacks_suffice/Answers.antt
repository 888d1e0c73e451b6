use Rattle.b67_image_shape.proofs.NearStacks as near
use Rattle.b67_image_shape.proofs.walk_laws.near_stacks_suffice.Goals as goal

pub returns : goal.returns
returns c = near.near_stacks_suffice
