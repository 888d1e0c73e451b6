use Rattle.b67_image_shape.proofs.ObjectTurns.{claims_skip}
use Rattle.b67_image_shape.proofs.objects.take_at.Goals as goal

pub returns-then-mark-eq0-clause-yes : goal.returns-then-mark-eq0-clause-yes
returns-then-mark-eq0-clause-yes c = λ m. claims_skip c.args.objects.now.core.now c.args.objects.now.low c.args.objects.now.kinds.now c.args.objects.now.links.now c.args.at c.args.claimed.now m c.if-mark-eq0.true
