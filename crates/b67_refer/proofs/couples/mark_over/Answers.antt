use Rattle.std.proofs.Common.{◌+◌, arith, inr}
use Rattle.b67_word.specs.declared.couples.Couple.{Couple}
use Rattle.b67_model.specs.Environment.{frame_at}
use Rattle.b67_layout.specs.Meets.{here}
use Rattle.b67_refer.proofs.Unders.{names_level, names_own, display_at}
use Rattle.b67_refer.proofs.couples.mark_over.Goals as goal

pub returns-then-level-regs : goal.returns-then-level-regs
returns-then-level-regs c = λ core a shown low.
    let q = a.task.place in
    let up : Couple = record { level = c.args.level + 1; disp = 0 } in
    inr (
      (frame_at (here a.member a.task q) (c.args.level + 1)).identity,
      names_level core c.args.regs.now a q c.args.display.now shown up (omega (arith, c.if-level-regs.true)),
      names_own core c.args.regs.now a q c.args.display.now shown up (omega (arith, low)) (omega (arith, c.if-level-regs.true)),
      display_at core c.args.regs.now a q c.args.display.now shown up (omega (arith, c.if-level-regs.true)),
    )
