use Rattle.std.proofs.Common.{◌+◌}
use Rattle.b67_area.specs.Spans.{first_hole}
use Rattle.b67_area.specs.Words.{hole_high}
use Rattle.b67_area.specs.Walk.{front, behind}
use Rattle.b67_area.proofs.Frees.{front_hole}
use Rattle.b67_area.proofs.search.hole_at.Goals as goal

pub room_of-requires : goal.room_of-requires
room_of-requires c =
    let (b, h, ss, i, e) = c.requires in
    let f = front_hole c.args.core.now b h c.args.at c.args.next ss i e c.if-next-at.true in
    (front ss, first_hole (c.args.at + front ss) (behind ss), f.0, f.1, f.2)

pub link_of-requires : goal.link_of-requires
link_of-requires c =
    let (b, h, ss, i, e) = c.requires in
    let f = front_hole c.args.core.now b h c.args.at c.args.next ss i e c.if-next-at.true in
    (hole_high (front ss), first_hole (c.args.at + front ss) (behind ss), f.1, f.2)

pub returns-then-next-at : goal.returns-then-next-at
returns-then-next-at c = λ b h ss i e.
    let f = front_hole c.args.core.now b h c.args.at c.args.next ss i e c.if-next-at.true in
    (c.room_of.ensures _ _ f.0 f.1 f.2, c.link_of.ensures _ _ f.1 f.2)
