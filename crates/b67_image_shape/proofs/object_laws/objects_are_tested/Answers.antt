use Rattle.b67_image_shape.proofs.ObjectsKept.{objects_tested}
use Rattle.b67_image_shape.proofs.object_laws.objects_are_tested.Goals as goal

pub returns : goal.returns
returns c = objects_tested c.sectors_tell_chains.ensures
