use Rattle.b67_image_shape.proofs.ItemsOf.{items_of}
use Rattle.b67_image_shape.proofs.HoldsBack.{shown_back}
use Rattle.b67_image_shape.proofs.laws.items_are_exact.Goals as goal

pub returns : goal.returns
returns c k = (items_of c.stacks_are_read.ensures c.directories_are_read.ensures k, shown_back k)
