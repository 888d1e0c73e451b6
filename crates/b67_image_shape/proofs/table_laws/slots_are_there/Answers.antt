use Rattle.b67_image_shape.proofs.TableReady.{slots_there}
use Rattle.b67_image_shape.proofs.table_laws.slots_are_there.Goals as goal

pub returns : goal.returns
returns c = slots_there
