use Rattle.b67_image_shape.proofs.Deciding.{on_true, on_false}
use Rattle.b67_image_shape.proofs.ObjectTurns.{kept_from, claimed_all}
use Rattle.b67_image_shape.proofs.objects.kept_by_marks.Goals as goal

pub returns-clause-yes : goal.returns-clause-yes
returns-clause-yes c =
    on_true c.are_claimed.result (kept_from c.args.objects.now.core.now c.args.objects.now.low c.args.objects.now.kinds.now c.args.objects.now.links.now c.args.objects.now.housed.now c.take_objects.new.claimed c.requires.judged.kinds c.requires.judged.walked c.if-not-take_objects.ensures.yes) c.are_claimed.ensures.yes

pub returns-clause-not : goal.returns-clause-not
returns-clause-not c =
    on_false c.are_claimed.result (λ never k. never (claimed_all c.args.objects.now.core.now c.args.objects.now.low c.args.objects.now.kinds.now c.args.objects.now.links.now c.take_objects.new.claimed c.requires.judged.kinds c.if-not-take_objects.ensures.yes k)) c.are_claimed.ensures.not
