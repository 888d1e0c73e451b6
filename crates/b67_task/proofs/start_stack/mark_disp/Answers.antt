use Rattle.std.proofs.Common.{ap, arith}
use Rattle.b67_stack.proofs.Tops.{mark_before}
use Rattle.b67_task.proofs.start_stack.mark_disp.Goals as goal

pub overflow_sub-result : goal.overflow_sub-result
overflow_sub-result c =
    let (x, p, stack, s, u, some) = c.requires in
    let k = c.args.cpu.now in
    let b = mark_before x k.core k.regs p k.regs.slot stack s u some in
    omega (arith, b.2, c.from.ensures, c.top_mark-mark.ensures x p stack s u, ap (λ m. m.back) (c.top_mark-mark.ensures x p stack s u))

pub overflow_sub-result-2 : goal.overflow_sub-result-2
overflow_sub-result-2 c =
    let (x, p, stack, s, u, some) = c.requires in
    let k = c.args.cpu.now in
    let b = mark_before x k.core k.regs p k.regs.slot stack s u some in
    omega (arith, b.1, c.from.ensures, ap (λ m. m.back) (c.top_mark-mark.ensures x p stack s u))

pub returns : goal.returns
returns c = λ x p stack s u some.
    let k = c.args.cpu.now in
    let b = mark_before x k.core k.regs p k.regs.slot stack s u some in
    omega (arith, b.1, c.from.ensures, ap (λ m. m.back) (c.top_mark-mark.ensures x p stack s u))
