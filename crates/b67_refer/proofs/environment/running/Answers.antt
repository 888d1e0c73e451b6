use Rattle.std.proofs.Common.{◌-◌, ℕ, arith, subst, sym}
use Rattle.b67_refer.proofs.Turns.{On, start, has_mark, ends, goes}
use Rattle.b67_refer.proofs.environment.running.Goals as goal

pub down-init : goal.down-init
down-init c = λ a. start c.args.core.now c.args.regs.now a

pub mark_at-m-requires : goal.mark_at-m-requires
mark_at-m-requires c = let a = c.requires in has_mark c.args.core.now c.args.regs.now a c.down.at (c.down.invariant a)

pub returns-then-m : goal.returns-then-m
returns-then-m c = λ a. ends c.args.core.now c.args.regs.now a c.down.at c.mark_at-m.result (c.down.invariant a) c.mark_at-m.ensures c.if-m.true

pub overflow_sub-at : goal.overflow_sub-at
overflow_sub-at c =
    let a = c.requires in
    let g = goes c.args.core.now c.args.regs.now a c.down.at c.mark_at-m.result (c.down.invariant a) c.mark_at-m.ensures c.if-m.false in
    omega (arith, g.1, c.from-at.ensures)

pub down-smaller : goal.down-smaller
down-smaller c =
    let a = c.requires in
    let g = goes c.args.core.now c.args.regs.now a c.down.at c.mark_at-m.result (c.down.invariant a) c.mark_at-m.ensures c.if-m.false in
    omega (arith, g.0, g.1, c.from-at.ensures)

pub down-preserved : goal.down-preserved
down-preserved c = λ a.
    let g = goes c.args.core.now c.args.regs.now a c.down.at c.mark_at-m.result (c.down.invariant a) c.mark_at-m.ensures c.if-m.false in
    subst (λ (n : ℕ). On c.args.core.now c.args.regs.now a (c.down.at - n)) (sym c.from-at.ensures) g.2
