use Rattle.b67_image_shape.proofs.Tables.{tables_decided}
use Rattle.b67_image_shape.proofs.laws.tables_are_tested.Goals as goal

pub returns : goal.returns
returns c = tables_decided
