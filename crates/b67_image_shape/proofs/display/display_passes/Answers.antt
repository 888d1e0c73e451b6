use Rattle.b67_image_shape.proofs.Deciding.{on_true, on_false}
use Rattle.b67_image_shape.proofs.display.display_passes.Goals as goal

pub returns-then-machine-clause-yes : goal.returns-then-machine-clause-yes
returns-then-machine-clause-yes c = c.requires.none c.if-machine.true

pub is_display-requires : goal.is_display-requires
is_display-requires c = (c.requires.some c.if-machine.false).0

pub returns-clause-yes : goal.returns-clause-yes
returns-clause-yes c = (let (a, to, from) = c.requires.some c.if-machine.false in on_true c.is_display.result (λ h. to (h a)) c.is_display.ensures.yes)

pub returns-clause-not : goal.returns-clause-not
returns-clause-not c = (let (a, to, from) = c.requires.some c.if-machine.false in on_false c.is_display.result (λ never d. never a (from d)) c.is_display.ensures.not)
