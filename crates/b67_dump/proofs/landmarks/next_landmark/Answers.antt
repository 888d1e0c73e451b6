use Rattle.std.proofs.Common.{◌+◌, ◌-◌, ◌/◌, length, subst, arith}
use Rattle.b67_layout_shown.specs.Machines.{sight_of}
use Rattle.b67_dump.specs.Landmarks.{IsKnown, block_end, marks_of_slot}
use Rattle.b67_dump.proofs.Landmarked.{end_above, known_above}
use Rattle.b67_dump.proofs.landmarks.next_landmark.Goals as goal

pub returns-then-at-eq0 : goal.returns-then-at-eq0
returns-then-at-eq0 c =
    let k = sight_of c.args.machine.now in
    let marks = marks_of_slot k (length c.args.before.now / 128) in
    let upper = c.top_landmark-top.result.mark + c.block_end-last.result in
    subst (λ home. IsKnown k.core home marks c.down_to.result) c.block_end-last.ensures (c.down_to.ensures marks upper (omega arith) (c.top_landmark-top.ensures upper (omega arith)))

pub returns : goal.returns
returns c =
    let k = sight_of c.args.machine.now in
    let at = length c.args.before.now in
    let marks = marks_of_slot k (at / 128) in
    let lower = end_above k at c.if-at-eq0.false in
    subst (λ home. IsKnown k.core home marks c.down_to-2.result) c.block_end-last.ensures
    (c.down_to-2.ensures marks (block_end k (at - 1)) (omega (arith, lower, c.block_end-last.ensures)) (known_above k c.args.before.now at c.landmark_at.result c.requires.known c.if-at-eq0.false c.landmark_at.ensures))
