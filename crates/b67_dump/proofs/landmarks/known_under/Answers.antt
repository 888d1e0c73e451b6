use Rattle.std.proofs.Common.{◌+◌, ◌-◌, ◌*◌, ◌/◌, ◌∙◌, ap, arith}
use Rattle.b67_layout_shown.specs.Machines.{sight_of}
use Rattle.b67_dump.specs.Landmarks.{block_end, marks_of_slot}
use Rattle.b67_dump.proofs.Landmarked.{end_over, known_at}
use Rattle.b67_dump.proofs.landmarks.known_under.Goals as goal

pub returns-then-block-ge128 : goal.returns-then-block-ge128
returns-then-block-ge128 c = λ some. absurd (omega (arith, some))

pub returns-then-at-landmarks : goal.returns-then-at-landmarks
returns-then-at-landmarks c = λ some. absurd (omega (arith, some))

pub returns : goal.returns
returns c =
    let k = sight_of c.args.machine.now in
    let block = c.saturating_sub-block.result / 128 in
    let slot = c.args.slot in
    let over = c.saturating_sub-block.ensures ∙ ap (λ n. c.args.home - n) c.slot_start.ensures.at in
    c.down_to.ensures (marks_of_slot k slot) (block_end k (slot * 128 + (127 - block))) (end_over k slot block c.args.home (omega (arith, c.if-block-ge128.false)) (ap (λ n. n / 128) over))
    (known_at k c.args.landmarks.now slot block c.landmark_at.result c.requires.known (omega (arith, c.if-block-ge128.false)) c.landmark_at.ensures)
