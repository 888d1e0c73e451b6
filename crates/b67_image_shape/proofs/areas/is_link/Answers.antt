use Rattle.b67_image_shape.proofs.AreaReads.{link_is, no_link}
use Rattle.b67_image_shape.proofs.Deciding.{on_true, on_false}
use Rattle.b67_image_shape.proofs.areas.is_link.Goals as goal

pub returns-clause-yes : goal.returns-clause-yes
returns-clause-yes c = on_true c.is_word.result (link_is c.args.core.now c.args.before c.args.high c.args.next c.from.result c.get.result c.from.ensures c.get.ensures) c.is_word.ensures.yes

pub returns-clause-not : goal.returns-clause-not
returns-clause-not c = on_false c.is_word.result (no_link c.args.core.now c.args.before c.args.high c.args.next c.from.result c.get.result c.from.ensures c.get.ensures) c.is_word.ensures.not
