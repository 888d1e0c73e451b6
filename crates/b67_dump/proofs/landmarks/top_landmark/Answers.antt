use Rattle.std.proofs.Common.{length, ◌∙◌, ap, subst, arith}
use Rattle.b67_layout_shown.specs.Machines.{sight_of}
use Rattle.b67_dump.specs.Walk.{marks_in}
use Rattle.b67_dump.specs.Landmarks.{IsNearest}
use Rattle.b67_dump.proofs.Nearest.{top_nearest}
use Rattle.b67_dump.proofs.landmarks.top_landmark.Goals as goal

pub returns-then-mark-eq0 : goal.returns-then-mark-eq0
returns-then-mark-eq0 c = λ upper le some. absurd (omega (arith, some))

pub returns-then-number-size : goal.returns-then-number-size
returns-then-number-size c = λ upper le some.
    let k = sight_of c.args.machine.now in
    let top = c.top_mark_in-mark.result in
    let number = c.count_marks-number.result in
    subst (λ f. IsNearest k.core upper (marks_in k.core k.regs.stack_size f) top number) c.top_mark_in-mark.ensures
    (top_nearest k.core k.regs.stack_size top number upper (c.count_marks-number.ensures ∙ ap (λ n. length (marks_in k.core n top)) c.from-size.ensures) (omega (arith, c.if-number-size.true, c.from-size.ensures)) le)

pub returns-else-number-size : goal.returns-else-number-size
returns-else-number-size c = λ upper le some. absurd (omega (arith, some))
