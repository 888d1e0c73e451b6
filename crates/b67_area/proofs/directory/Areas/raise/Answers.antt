use Rattle.std.proofs.Common.{◌≡◌, ◌∙◌, ap, ◌-◌, ◌+◌, arith, ℕ}
use Rattle.b67_area.specs.Spans.{first_hole}
use Rattle.b67_area.specs.Words.{hole_high}
use Rattle.b67_area.specs.Walk.{with_hole}
use Rattle.b67_area.proofs.Raises.{front_here, raised, raise_outside}
use Rattle.b67_area.proofs.Laws.{area_at-raised}
use Rattle.b67_area.proofs.directory.Areas.raise.Goals as goal

pub room_of-room-requires : goal.room_of-room-requires
room_of-room-requires c =
    let (ss, d, l, h, f) = c.requires in
    let t = front_here c.args.core.now c.args.self.now.low c.args.low ss d f (omega (arith, c.if-low-self.true)) h in
    (t.room, first_hole (c.args.self.now.low + t.room) t.rest, omega (arith, t.fits, d.small), t.next, t.word)

pub link_of-next-requires : goal.link_of-next-requires
link_of-next-requires c =
    let (ss, d, l, h, f) = c.requires in
    let t = front_here c.args.core.now c.args.self.now.low c.args.low ss d f (omega (arith, c.if-low-self.true)) h in
    (hole_high t.room, first_hole (c.args.self.now.low + t.room) t.rest, t.next, t.word)

pub overflow_sub-room : goal.overflow_sub-room
overflow_sub-room c =
    let (ss, d, l, h, f) = c.requires in
    let t = front_here c.args.core.now c.args.self.now.low c.args.low ss d f (omega (arith, c.if-low-self.true)) h in
    let room : c.room_of-room.result ≡ t.room = c.room_of-room.ensures t.room (first_hole (c.args.self.now.low + t.room) t.rest) (omega (arith, t.fits, d.small)) t.next t.word in
    omega (arith, room, t.reach)

pub leave-requires-clause-link : goal.leave-requires-clause-link
leave-requires-clause-link c =
    let (ss, d, l, h, f) = c.requires in
    let t = front_here c.args.core.now c.args.self.now.low c.args.low ss d f (omega (arith, c.if-low-self.true)) h in
    (0, c.args.self.now.low, omega (arith, t.fits, d.small), t.link)

pub leave-requires-clause-room : goal.leave-requires-clause-room
leave-requires-clause-room c =
    let (ss, d, l, h, f) = c.requires in
    let t = front_here c.args.core.now c.args.self.now.low c.args.low ss d f (omega (arith, c.if-low-self.true)) h in
    let room : c.room_of-room.result ≡ t.room = c.room_of-room.ensures t.room (first_hole (c.args.self.now.low + t.room) t.rest) (omega (arith, t.fits, d.small)) t.next t.word in
    omega (arith, room, t.fits, d.small)

pub leave-requires-clause-inside : goal.leave-requires-clause-inside
leave-requires-clause-inside c =
    let (ss, d, l, h, f) = c.requires in
    let t = front_here c.args.core.now c.args.self.now.low c.args.low ss d f (omega (arith, c.if-low-self.true)) h in
    let room : c.room_of-room.result ≡ t.room = c.room_of-room.ensures t.room (first_hole (c.args.self.now.low + t.room) t.rest) (omega (arith, t.fits, d.small)) t.next t.word in
    λ m. (omega (arith, room, t.fits, t.reach), omega (arith, room, t.fits, t.reach, d.small))

pub leave-requires-clause-next : goal.leave-requires-clause-next
leave-requires-clause-next c =
    let (ss, d, l, h, f) = c.requires in
    let t = front_here c.args.core.now c.args.self.now.low c.args.low ss d f (omega (arith, c.if-low-self.true)) h in
    let next : c.link_of-next.result ≡ first_hole (c.args.self.now.low + t.room) t.rest = c.link_of-next.ensures (hole_high t.room) (first_hole (c.args.self.now.low + t.room) t.rest) t.next t.word in
    omega (arith, next, t.next)

pub returns-then-low-self-clause-row : goal.returns-then-low-self-clause-row
returns-then-low-self-clause-row c =
    let (_, _, l, h, _) = c.requires in
    λ ss d f.
    let t = front_here c.args.core.now c.args.self.now.low c.args.low ss d f (omega (arith, c.if-low-self.true)) h in
    let room : c.room_of-room.result ≡ t.room = c.room_of-room.ensures t.room (first_hole (c.args.self.now.low + t.room) t.rest) (omega (arith, t.fits, d.small)) t.next t.word in
    let next : c.link_of-next.result ≡ first_hole (c.args.self.now.low + t.room) t.rest = c.link_of-next.ensures (hole_high t.room) (first_hole (c.args.self.now.low + t.room) t.rest) t.next t.word in
    let e = c.leave.ensures.value 0 c.args.self.now.low (omega (arith, t.fits, d.small)) t.link in
    let is : c.leave.new.core ≡ with_hole c.args.core.now 152 0 c.args.low (t.room - (c.args.low - c.args.self.now.low)) (first_hole (c.args.self.now.low + t.room) t.rest) = e ∙ ap (λ (k : ℕ). with_hole c.args.core.now 152 0 c.args.low (k - (c.args.low - c.args.self.now.low)) c.link_of-next.result) room ∙ ap (with_hole c.args.core.now 152 0 c.args.low (t.room - (c.args.low - c.args.self.now.low))) next in
    raised c.args.core.now c.leave.new.core c.args.self.now.low c.args.low ss d (omega (arith, c.if-low-self.true)) t is

pub returns-then-low-self-clause-outside : goal.returns-then-low-self-clause-outside
returns-then-low-self-clause-outside c =
    let (_, _, l, h, _) = c.requires in
    λ ss d f.
    let t = front_here c.args.core.now c.args.self.now.low c.args.low ss d f (omega (arith, c.if-low-self.true)) h in
    let room : c.room_of-room.result ≡ t.room = c.room_of-room.ensures t.room (first_hole (c.args.self.now.low + t.room) t.rest) (omega (arith, t.fits, d.small)) t.next t.word in
    let next : c.link_of-next.result ≡ first_hole (c.args.self.now.low + t.room) t.rest = c.link_of-next.ensures (hole_high t.room) (first_hole (c.args.self.now.low + t.room) t.rest) t.next t.word in
    let e = c.leave.ensures.value 0 c.args.self.now.low (omega (arith, t.fits, d.small)) t.link in
    let is : c.leave.new.core ≡ with_hole c.args.core.now 152 0 c.args.low (t.room - (c.args.low - c.args.self.now.low)) (first_hole (c.args.self.now.low + t.room) t.rest) = e ∙ ap (λ (k : ℕ). with_hole c.args.core.now 152 0 c.args.low (k - (c.args.low - c.args.self.now.low)) c.link_of-next.result) room ∙ ap (with_hole c.args.core.now 152 0 c.args.low (t.room - (c.args.low - c.args.self.now.low))) next in
    raise_outside c.args.core.now c.leave.new.core c.args.self.now.low c.args.low ss d (omega (arith, c.if-low-self.true)) t is

pub returns-then-low-self-clause-areas : goal.returns-then-low-self-clause-areas
returns-then-low-self-clause-areas c = grind (arith, area_at-raised)
