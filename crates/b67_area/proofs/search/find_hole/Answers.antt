use Rattle.std.proofs.Common.{◌≡◌, ℕ, ◌+◌, List, [], refl, ◌∙◌, arith, ap}
use Rattle.b67_area.specs.Spans.{Span, first_hole}
use Rattle.b67_area.specs.Words.{hole_high}
use Rattle.b67_area.specs.Directory.{IsDirectory}
use Rattle.b67_area.specs.Walk.{spans_top, FitsHole}
use Rattle.b67_area.proofs.Walks.{first, on, turn, turn_next, turn_word, NoFit-unzip, NoFit-none, low_positive}
use Rattle.b67_area.proofs.Places.{hole_facts}
use Rattle.b67_area.proofs.search.find_hole.Goals.{Then-from}
use Rattle.b67_area.proofs.search.find_hole.Goals as goal

pub link_of-at-requires : goal.link_of-at-requires
link_of-at-requires c = grind (arith, first)

pub holes-init : goal.holes-init
holes-init c = λ low ss d.
    let f = first c.args.core.now low ss d in
    record { below = []; above = ss; is = refl; before_is = refl; at_is = c.link_of-at.ensures 0 (first_hole low ss) f.0 f.1; small = tt }

pub room_of-room-requires : goal.room_of-room-requires
room_of-room-requires c =
    let (low, ss, d) = c.requires in
    let n = c.args.words + 2 in
    let t = turn c.args.core.now n low ss c.holes.before c.holes.at d (c.holes.invariant low ss d) c.holes-test.true in
    (t.room, first_hole (spans_top low t.below + t.room) t.above, omega (arith, t.hole.fits, d.small), turn_next c.args.core.now n low ss c.holes.before c.holes.at d t, turn_word c.args.core.now n low ss c.holes.before c.holes.at d t)

pub link_of-next-requires : goal.link_of-next-requires
link_of-next-requires c =
    let (low, ss, d) = c.requires in
    let n = c.args.words + 2 in
    let t = turn c.args.core.now n low ss c.holes.before c.holes.at d (c.holes.invariant low ss d) c.holes-test.true in
    (hole_high t.room, first_hole (spans_top low t.below + t.room) t.above, turn_next c.args.core.now n low ss c.holes.before c.holes.at d t, turn_word c.args.core.now n low ss c.holes.before c.holes.at d t)

fits : (c : Then-from) (low : ℕ) (ss : List Span) → IsDirectory c.args.core.now low ss → FitsHole (c.args.words + 2) low ss (record { before = c.holes.before; at = c.holes.at; room = c.room_of-room.result; next = c.link_of-next.result })
fits c low ss d =
    let n = c.args.words + 2 in
    let t = turn c.args.core.now n low ss c.holes.before c.holes.at d (c.holes.invariant low ss d) c.holes-test.true in
    let next = turn_next c.args.core.now n low ss c.holes.before c.holes.at d t in
    let word = turn_word c.args.core.now n low ss c.holes.before c.holes.at d t in
    let room : c.room_of-room.result ≡ t.room = c.room_of-room.ensures _ _ (omega (arith, t.hole.fits, d.small)) next word in
    let link : c.link_of-next.result ≡ first_hole (spans_top low t.below + t.room) t.above = c.link_of-next.ensures _ _ next word in
    let there : spans_top low t.below + t.room ≡ c.holes.at + c.room_of-room.result = omega (arith, room, t.at_is) in
    record {
      below = t.below;
      above = t.above;
      is = rw room t.hole.is;
      at = t.at_is;
      before = t.before_is;
      next = link ∙ ap (λ (k : ℕ). first_hole k t.above) there;
      small = t.small;
      room = omega (arith, room);
    }

pub returns-then-from-clause-found : goal.returns-then-from-clause-found
returns-then-from-clause-found c = λ low ss d. fits c low ss d

pub returns-then-from-clause-facts : goal.returns-then-from-clause-facts
returns-then-from-clause-facts c =
    let (low, ss, d) = c.requires in
    hole_facts c.args.core.now (c.args.words + 2) low ss _ d (fits c low ss d)

pub holes-smaller : goal.holes-smaller
holes-smaller c =
    let (low, ss, d) = c.requires in
    let n = c.args.words + 2 in
    let t = turn c.args.core.now n low ss c.holes.before c.holes.at d (c.holes.invariant low ss d) c.holes-test.true in
    omega (arith, t.hole.place, t.hole.fits, t.hole.some, t.at_is, t.before_is)

pub holes-preserved : goal.holes-preserved
holes-preserved c = λ low ss d.
    let n = c.args.words + 2 in
    let t = turn c.args.core.now n low ss c.holes.before c.holes.at d (c.holes.invariant low ss d) c.holes-test.true in
    let next = turn_next c.args.core.now n low ss c.holes.before c.holes.at d t in
    let word = turn_word c.args.core.now n low ss c.holes.before c.holes.at d t in
    let room : c.room_of-room.result ≡ t.room = c.room_of-room.ensures _ _ (omega (arith, t.hole.fits, d.small)) next word in
    let link : c.link_of-next.result ≡ first_hole (spans_top low t.below + t.room) t.above = c.link_of-next.ensures _ _ next word in
    on c.args.core.now n low ss c.holes.before c.holes.at d t c.link_of-next.result link (omega (arith, room))

pub returns-clause-found : goal.returns-clause-found
returns-clause-found c = grind (arith, NoFit-unzip, NoFit-none, low_positive)
