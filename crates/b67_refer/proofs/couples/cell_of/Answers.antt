use Rattle.std.proofs.Common.{◌≤◌, sym, subst, arith, refl, ℕ, Err}
use Rattle.b67_word.specs.declared.faults.Fault.TheVariants.{InvalidAddress}
use Rattle.b67_model.specs.Answers.{Answer}
use Rattle.b67_model.specs.Environment.{frame_at}
use Rattle.b67_layout.specs.Meets.{here}
use Rattle.b67_refer.specs.RunningContext.{live_of}
use Rattle.b67_refer.specs.Cells.{FindsCell}
use Rattle.b67_refer.proofs.Chains.{level_is, level_small}
use Rattle.b67_refer.proofs.Unders.{named_above, named_at, names_level, names_kind, display_at}
use Rattle.b67_refer.proofs.couples.cell_of.Goals as goal

pub returns-then-c-regs : goal.returns-then-c-regs
returns-then-c-regs c = λ a q shown.
    let is = named_above c.args.core.now c.args.regs.now a q c.args.display.now shown c.args.c (omega (arith, c.if-c-regs.true)) in
    subst (λ (y : Answer (ℕ × ℕ)). FindsCell a q (Err InvalidAddress) y) (sym is) refl

pub bounds-display-c : goal.bounds-display-c
bounds-display-c c = let a = c.requires.0 in omega (arith, c.if-c-regs.false, level_is c.args.core.now c.args.regs.now a, level_small c.args.core.now c.args.regs.now a)

pub record_cell-requires : goal.record_cell-requires
record_cell-requires c =
    let (a, shown) = c.requires in
    let q = a.task.place in
    let low : c.args.c.level ≤ c.args.regs.now.level = omega (arith, c.if-c-regs.false) in (
      live_of a,
      (frame_at (here a.member a.task q) c.args.c.level).identity,
      names_level c.args.core.now c.args.regs.now a q c.args.display.now shown c.args.c low,
      display_at c.args.core.now c.args.regs.now a q c.args.display.now shown c.args.c low,
      names_kind c.args.core.now c.args.regs.now a q c.args.display.now shown c.args.c low,
    )

pub returns : goal.returns
returns c = λ a q shown.
    let low : c.args.c.level ≤ c.args.regs.now.level = omega (arith, c.if-c-regs.false) in
    let is = named_at c.args.core.now c.args.regs.now a q c.args.display.now shown c.args.c low in
    let found = c.record_cell.ensures (live_of a) q (frame_at (here a.member a.task q) c.args.c.level).identity (names_level c.args.core.now c.args.regs.now a q c.args.display.now shown c.args.c low) (display_at c.args.core.now c.args.regs.now a q c.args.display.now shown c.args.c low)
    (names_kind c.args.core.now c.args.regs.now a q c.args.display.now shown c.args.c low) in
    subst (λ (y : Answer (ℕ × ℕ)). FindsCell a q c.record_cell.result y) (sym is) found
