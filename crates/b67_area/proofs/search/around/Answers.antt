use Rattle.std.proofs.Common.{◌+◌, [], refl, arith, inl, inr}
use Rattle.b67_area.specs.Spans.{first_hole}
use Rattle.b67_area.specs.Words.{hole_high}
use Rattle.b67_area.specs.Walk.{spans_top}
use Rattle.b67_area.proofs.Walks.{first}
use Rattle.b67_area.proofs.Climbs.{up_turn, up_next, up_word, up_size, up_on, arrived}
use Rattle.b67_area.proofs.search.around.Goals as goal

pub link_of-next-requires : goal.link_of-next-requires
link_of-next-requires c = grind (arith, first)

pub up-init : goal.up-init
up-init c = λ low ss a d e.
    let f = first c.args.core.now low ss d in
    record { below = []; above = ss; is = refl; before_is = refl; room_is = refl; next_is = c.link_of-next.ensures 0 (first_hole low ss) f.0 f.1; here = e }

pub returns-then-at-next : goal.returns-then-at-next
returns-then-at-next c = λ low ss a d e. arrived low ss c.args.at a _ (omega (arith, d.above)) (c.up.invariant low ss a d e) (inr c.if-at-next.true)

pub room_of-room-requires : goal.room_of-room-requires
room_of-room-requires c =
    let (low, ss, a, d, e) = c.requires in
    let t = up_turn c.args.core.now low ss c.args.at a c.up.before c.up.room c.up.next d (c.up.invariant low ss a d e) c.up-test.true c.if-at-next.false in
    (t.size, first_hole (spans_top low t.below + t.size) t.above, up_size c.args.core.now low ss c.args.at a c.up.before c.up.room c.up.next d t, up_next c.args.core.now low ss c.args.at a c.up.before c.up.room c.up.next d t, up_word c.args.core.now low ss c.args.at a c.up.before c.up.room c.up.next d t)

pub link_of-next-requires-in-up : goal.link_of-next-requires-in-up
link_of-next-requires-in-up c =
    let (low, ss, a, d, e) = c.requires in
    let t = up_turn c.args.core.now low ss c.args.at a c.up.before c.up.room c.up.next d (c.up.invariant low ss a d e) c.up-test.true c.if-at-next.false in
    (hole_high t.size, first_hole (spans_top low t.below + t.size) t.above, up_next c.args.core.now low ss c.args.at a c.up.before c.up.room c.up.next d t, up_word c.args.core.now low ss c.args.at a c.up.before c.up.room c.up.next d t)

pub up-smaller : goal.up-smaller
up-smaller c =
    let (low, ss, a, d, e) = c.requires in
    let t = up_turn c.args.core.now low ss c.args.at a c.up.before c.up.room c.up.next d (c.up.invariant low ss a d e) c.up-test.true c.if-at-next.false in
    omega (arith, t.hole.place, t.hole.fits, t.hole.some, t.next_is, t.before_is)

pub up-preserved : goal.up-preserved
up-preserved c = λ low ss a d e.
    let t = up_turn c.args.core.now low ss c.args.at a c.up.before c.up.room c.up.next d (c.up.invariant low ss a d e) c.up-test.true c.if-at-next.false in
    let next = up_next c.args.core.now low ss c.args.at a c.up.before c.up.room c.up.next d t in
    let word = up_word c.args.core.now low ss c.args.at a c.up.before c.up.room c.up.next d t in
    up_on c.args.core.now low ss c.args.at a c.up.before c.up.room c.up.next d t _ _
    (c.room_of-room.ensures _ _ (up_size c.args.core.now low ss c.args.at a c.up.before c.up.room c.up.next d t) next word)
    (c.link_of-next-in-up.ensures _ _ next word)

pub returns : goal.returns
returns c = λ low ss a d e. arrived low ss c.args.at a _ (omega (arith, d.above)) (c.up.invariant low ss a d e) (inl c.up-test.false)
