use Rattle.b67_image_shape.proofs.Deciding.{on_true, on_false}
use Rattle.b67_image_shape.proofs.ObjectTurns.{present_is}
use Rattle.b67_image_shape.proofs.objects.is_held.Goals as goal

pub returns-clause-yes : goal.returns-clause-yes
returns-clause-yes c = on_true c.has_area.result (λ h p. h) c.has_area.ensures.yes

pub returns-clause-not : goal.returns-clause-not
returns-clause-not c =
    on_false c.has_area.result (λ never h. never (h (present_is c.args.objects.now.core.now c.args.at c.part.result c.get.result c.get.ensures c.part.ensures.value c.if-part-ne1.false))) c.has_area.ensures.not
