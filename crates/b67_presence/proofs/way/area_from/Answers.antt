use Rattle.b67_presence.proofs.Firsts.{points_at_first, points_at, points_at_next, walk_on_falls}
use Rattle.b67_presence.proofs.way.area_from.Goals as goal

pub areas-init : goal.areas-init
areas-init c = λ ss d. points_at_first c.args.areas.now.low ss c.first-next.result (c.first-next.ensures ss d)

pub after-next-requires : goal.after-next-requires
after-next-requires c =
    let (ss, d) = c.requires in
    let here = points_at c.args.areas.now.low ss c.in-Some.at c.areas.next c.in-Some.is (c.areas.invariant ss d) in
    (ss, here.0, d, here.1)

pub areas-preserved : goal.areas-preserved
areas-preserved c = λ ss d.
    let here = points_at c.args.areas.now.low ss c.in-Some.at c.areas.next c.in-Some.is (c.areas.invariant ss d) in
    points_at_next c.args.areas.now.low ss c.in-Some.at c.areas.next c.after-next.result c.in-Some.is (c.areas.invariant ss d) (c.after-next.ensures ss here.0 d here.1)

pub areas-smaller : goal.areas-smaller
areas-smaller c =
    let (ss, d) = c.requires in
    let here = points_at c.args.areas.now.low ss c.in-Some.at c.areas.next c.in-Some.is (c.areas.invariant ss d) in
    walk_on_falls c.args.core.now c.args.areas.now.low ss c.in-Some.at c.areas.next c.after-next.result d c.in-Some.is (c.areas.invariant ss d) (c.after-next.ensures ss here.0 d here.1)

pub returns-then-at-start : goal.returns-then-at-start
returns-then-at-start c = λ ss d. points_at c.args.areas.now.low ss c.in-Some.at c.areas.next c.in-Some.is (c.areas.invariant ss d)

pub returns : goal.returns
returns c = λ ss d. tt
