use Rattle.std.proofs.Common.{arith, ap, ◌∙◌, ◌*◌, ◌+◌, ℕ}
use Rattle.b67_refer.proofs.Displays.{slot_bound}
use Rattle.b67_refer.proofs.environment.address_in_slot.Goals as goal

pub overflow_mul-result : goal.overflow_mul-result
overflow_mul-result c = let (a, used) = c.requires in let b = slot_bound c.args.core.now c.args.regs.now a c.args.slot used c.from.result c.from.ensures c.from-2.result c.from-2.ensures in omega (arith, b)

pub overflow_add-result : goal.overflow_add-result
overflow_add-result c = let (a, used) = c.requires in let b = slot_bound c.args.core.now c.args.regs.now a c.args.slot used c.from.result c.from.ensures c.from-2.result c.from-2.ensures in omega (arith, b)

pub overflow_add-result-2 : goal.overflow_add-result-2
overflow_add-result-2 c = let (a, used) = c.requires in let b = slot_bound c.args.core.now c.args.regs.now a c.args.slot used c.from.result c.from.ensures c.from-2.result c.from-2.ensures in omega (arith, b, c.from-3.ensures)

pub returns : goal.returns
returns c = ap (λ (k : ℕ). c.args.regs.now.stacks + k * c.from-2.result + c.from-3.result) c.from.ensures ∙ ap (λ (k : ℕ). c.args.regs.now.stacks + c.args.slot * k + c.from-3.result) c.from-2.ensures ∙ ap (λ (k : ℕ). c.args.regs.now.stacks + c.args.slot * c.args.regs.now.stack_size + k) c.from-3.ensures
