use Rattle.std.proofs.Common.{Ok, ◌∙◌, ap}
use Rattle.b67_layout.proofs.Devices.{Served-then}
use Rattle.b67_overlay.proofs.Answered.{ok_true, err_ok}
use Rattle.b67_presence.proofs.Ways.{absent_after}
use Rattle.b67_presence.proofs.Firsts.{way_ends, way_after}
use Rattle.b67_presence.proofs.way.make_way.Goals as goal

pub evict_upward-requires-clause-machine : goal.evict_upward-requires-clause-machine
evict_upward-requires-clause-machine g c =
    let (x, p, t, m, a) = c.requires.machine in
    let (w, still) = (c.evict_one.ensures.row x p t m a).waits (c.in-Ok-false.is ∙ ap Ok c.in-Ok-false.field-0-test) in
    (w.storage, p, t, w.stands, absent_after w.sheds a)

pub returns-in-Ok-true-clause-row : goal.returns-in-Ok-true-clause-row
returns-in-Ok-true-clause-row g c = λ x p t m a. way_ends (c.evict_one.ensures.row x p t m a) (c.in-Ok-true.is ∙ ap Ok c.in-Ok-true.field-0-test) ok_true

pub returns-in-Ok-false-clause-row : goal.returns-in-Ok-false-clause-row
returns-in-Ok-false-clause-row g c = λ x p t m a.
    let row = c.evict_one.ensures.row x p t m a in
    let (w, still) = row.waits (c.in-Ok-false.is ∙ ap Ok c.in-Ok-false.field-0-test) in
    way_after w.sheds still (c.evict_upward.ensures.row w.storage p t w.stands (absent_after w.sheds a)) row.outside

pub returns-in-Ok-false-clause-device : goal.returns-in-Ok-false-clause-device
returns-in-Ok-false-clause-device g c = Served-then _ _ _ _ _ _ _ c.evict_one.ensures.device c.evict_upward.ensures.device

pub returns-in-Err-clause-row : goal.returns-in-Err-clause-row
returns-in-Err-clause-row g c = λ x p t m a. way_ends (c.evict_one.ensures.row x p t m a) c.in-Err.is err_ok
