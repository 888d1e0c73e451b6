use Rattle.b67_overlay.proofs.Shedding.{tells_still, directory_of}
use Rattle.b67_presence.proofs.Firsts.{object_at, evicts_none, evicts_some}
use Rattle.b67_presence.proofs.way.evict_one.Goals as goal

pub area_from-requires : goal.area_from-requires
area_from-requires g c = let (x, p, t, m, a) = c.requires.machine in (x.spans, directory_of m)

pub evict_area-requires-clause-machine : goal.evict_area-requires-clause-machine
evict_area-requires-clause-machine g c =
    let (x, p, t, m, a) = c.requires.machine in
    let (u, pr) = object_at m c.in-Some.is (c.area_from.ensures x.spans (directory_of m)) in
    (x, p, t, u, m, a, pr)

pub returns-in-Some-clause-row : goal.returns-in-Some-clause-row
returns-in-Some-clause-row g c = λ x p t m a.
    let (u, pr) = object_at m c.in-Some.is (c.area_from.ensures x.spans (directory_of m)) in
    evicts_some m.device (tells_still c.evict_area.ensures.device) pr (c.evict_area.ensures.row x p t u m a pr)

pub returns-in-None-clause-row : goal.returns-in-None-clause-row
returns-in-None-clause-row g c = λ x p t m a. evicts_none t c.args.spare m
