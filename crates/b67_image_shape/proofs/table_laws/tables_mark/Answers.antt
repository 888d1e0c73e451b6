use Rattle.b67_image_shape.proofs.TableReady as ready
use Rattle.b67_image_shape.proofs.table_laws.tables_mark.Goals as goal

pub returns : goal.returns
returns c = ready.tables_mark
