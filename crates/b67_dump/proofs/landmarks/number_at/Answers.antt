use Rattle.std.proofs.Common.{length, sym, ◌∙◌, ap, subst}
use Rattle.b67_layout_shown.specs.Machines.{sight_of}
use Rattle.b67_dump.specs.Walk.{marks_in, top_mark_in}
use Rattle.b67_dump.specs.Landmarks.{IsNearest, marks_of_slot}
use Rattle.b67_dump.proofs.Nearest.{number_is}
use Rattle.b67_dump.proofs.landmarks.number_at.Goals as goal

pub returns-then-from-mark : goal.returns-then-from-mark
returns-then-from-mark c =
    let k = sight_of c.args.machine.now in
    let x = c.known_under-near.result in
    number_is k.core k.regs.stack_size (top_mark_in k c.args.slot) c.args.mark x.number
    (subst (λ m. IsNearest k.core c.args.mark (marks_of_slot k c.args.slot) m x.number) (sym c.from.ensures ∙ c.if-from-mark.true) (c.known_under-near.ensures c.if-near-gt0.true))

pub returns : goal.returns
returns c = c.count_marks.ensures ∙ ap (λ n. length (marks_in c.args.machine.now.cpu.core n c.args.mark)) c.from-2.ensures
