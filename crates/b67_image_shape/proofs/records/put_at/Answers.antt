use Rattle.std.proofs.Common.{arith}
use Rattle.b67_image_shape.proofs.Filling.{set_past}
use Rattle.b67_image_shape.proofs.records.put_at.Goals as goal

pub returns-else-at-records : goal.returns-else-at-records
returns-else-at-records c = set_past c.args.records.now c.args.at c.args.value (omega (arith, c.if-at-records.false))
