use Rattle.b67_image_shape.proofs.CellsTold.{cells_told}
use Rattle.b67_image_shape.proofs.cells.cells_are_decided.Goals as goal

pub returns : goal.returns
returns c = cells_told c.reach_is_seen.ensures
