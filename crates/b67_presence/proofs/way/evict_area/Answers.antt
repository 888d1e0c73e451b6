use Rattle.std.proofs.Common.{Err, ap}
use Rattle.b67_layout.proofs.Devices.{Served-then, Served-same}
use Rattle.b67_presence.proofs.Evicting.{evicts_spare, evicts_nothing, absent_still, evicts_came, evicts_waits, evicts_fails}
use Rattle.b67_presence.proofs.way.evict_area.Goals as goal

pub page_in-requires-clause-machine : goal.page_in-requires-clause-machine
page_in-requires-clause-machine g c =
    let (x, p, t, u, m, a, pr) = c.requires.machine in
    let o = c.in-Ok.ensures.row x p u m pr in
    (_, p, t, o.stands, absent_still c.overlay.ensures.device m pr o a c.if-at-spare.false)

pub returns-then-at-spare-clause-row : goal.returns-then-at-spare-clause-row
returns-then-at-spare-clause-row g c = λ x p t u m a pr. evicts_spare t u m c.if-at-spare.true

pub returns-in-Err-clause-row : goal.returns-in-Err-clause-row
returns-in-Err-clause-row g c = λ x p t u m a pr. evicts_nothing c.overlay.ensures.device m pr t c.args.spare c.in-Err.fault (c.in-Err.ensures.row x p u m pr)

pub returns-in-Ok-page_in-clause-row : goal.returns-in-Ok-page_in-clause-row
returns-in-Ok-page_in-clause-row g c = λ x p t u m a pr.
    let o = c.in-Ok.ensures.row x p u m pr in
    let still = absent_still c.overlay.ensures.device m pr o a c.if-at-spare.false in
    evicts_came c.overlay.ensures.device m pr o a c.if-at-spare.false (c.in-Ok-page_in.ensures.row _ p t o.stands still)

pub returns-in-Err-NoHole-clause-row : goal.returns-in-Err-NoHole-clause-row
returns-in-Err-NoHole-clause-row g c = λ x p t u m a pr.
    let o = c.in-Ok.ensures.row x p u m pr in
    let still = absent_still c.overlay.ensures.device m pr o a c.if-at-spare.false in
    evicts_waits c.overlay.ensures.device m pr o a c.if-at-spare.false c.in-Err-NoHole.field-0-is (c.in-Err-NoHole.ensures.unchanged (ap Err c.in-Err-NoHole.field-0-is)).1 (c.in-Err-NoHole.ensures.row _ p t o.stands still)

pub returns-in-Err-BackingFault-clause-row : goal.returns-in-Err-BackingFault-clause-row
returns-in-Err-BackingFault-clause-row g c = λ x p t u m a pr.
    let o = c.in-Ok.ensures.row x p u m pr in
    let still = absent_still c.overlay.ensures.device m pr o a c.if-at-spare.false in
    evicts_fails c.overlay.ensures.device m pr o a c.if-at-spare.false (c.in-Err-BackingFault.ensures.row _ p t o.stands still)

pub returns-in-Ok-page_in-clause-device : goal.returns-in-Ok-page_in-clause-device
returns-in-Ok-page_in-clause-device g c = Served-then _ _ _ _ _ _ _ c.overlay.ensures.device (Served-same _ _ _ _ _ _ c.page_in.ensures.device)

pub returns-in-Err-NoHole-clause-device : goal.returns-in-Err-NoHole-clause-device
returns-in-Err-NoHole-clause-device g c = Served-then _ _ _ _ _ _ _ c.overlay.ensures.device (Served-same _ _ _ _ _ _ c.page_in.ensures.device)

pub returns-in-Err-BackingFault-clause-device : goal.returns-in-Err-BackingFault-clause-device
returns-in-Err-BackingFault-clause-device g c = Served-then _ _ _ _ _ _ _ c.overlay.ensures.device (Served-same _ _ _ _ _ _ c.page_in.ensures.device)
