use Rattle.b67_image_shape.proofs.Deciding.{on_true, on_false}
use Rattle.b67_image_shape.proofs.ObjectTurns.{again_same, again_other}
use Rattle.b67_image_shape.proofs.objects.is_described.Goals as goal

pub returns-clause-yes : goal.returns-clause-yes
returns-clause-yes c = on_true c.is_word.result (again_same c.args.core.now c.args.at c.args.kind c.get-w.result c.described-again.result c.tag.result c.bits.result c.get-w.ensures c.described-again.ensures c.tag.ensures.value c.bits.ensures.value) c.is_word.ensures.yes

pub returns-clause-not : goal.returns-clause-not
returns-clause-not c = on_false c.is_word.result (again_other c.args.core.now c.args.at c.args.kind c.get-w.result c.described-again.result c.tag.result c.bits.result c.get-w.ensures c.described-again.ensures c.tag.ensures.value c.bits.ensures.value) c.is_word.ensures.not
