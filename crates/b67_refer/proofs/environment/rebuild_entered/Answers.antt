use Rattle.std.proofs.Common.{◌≡◌, ◌∙◌, arith, length}
use Rattle.b67_refer.proofs.Chains.{level_is, level_small, turn_next}
use Rattle.b67_refer.proofs.Displays.{from_top, named_slot, holds_over, holds_to}
use Rattle.b67_refer.proofs.environment.rebuild_entered.Goals as goal

pub bounds-display-regs : goal.bounds-display-regs
bounds-display-regs c = let a = c.requires.run in omega (arith, level_is c.args.core.now c.args.regs.now a, level_small c.args.core.now c.args.regs.now a)

pub overflow_sub-regs : goal.overflow_sub-regs
overflow_sub-regs c = let (slot, disp, top, is) = c.requires.top in omega (arith, top.high)

pub rebuild_down-requires-clause-run : goal.rebuild_down-requires-clause-run
rebuild_down-requires-clause-run c = c.requires.run

pub rebuild_down-requires-clause-low : goal.rebuild_down-requires-clause-low
rebuild_down-requires-clause-low c = let (slot, disp, top, is) = c.requires.top in omega (arith, top.high)

pub rebuild_down-requires-clause-known : goal.rebuild_down-requires-clause-known
rebuild_down-requires-clause-known c = λ up low within.
    let (slot, disp, top, is) = c.requires.top in
    holds_over c.args.core.now c.args.regs.now c.requires.run c.args.regs.now.level c.args.regs.now.f up c.args.display.now top.high (omega (arith, within, top.high))
    (holds_to c.args.core.now c.args.regs.now c.args.display.now c.args.known up low c.requires.known)

pub rebuild_down-requires-clause-above : goal.rebuild_down-requires-clause-above
rebuild_down-requires-clause-above c = λ a.
    let (slot, disp, top, is) = c.requires.top in
    let len : length c.args.display.now ≡ 32 = cc in
    turn_next c.args.core.now c.args.regs.now a c.args.regs.now.f c.args.regs.now.level c.args.under c.args.display.now (from_top c.args.core.now c.args.regs.now a slot disp top c.args.display.now) (λ z. omega (arith, z, top.high)) len
    (is ∙ (named_slot c.args.core.now c.args.regs.now a slot disp top).1)
