use Rattle.std.proofs.Common.{arith}
use Rattle.b67_overlay.proofs.Families.{slot_low, in_slot_over, in_slot_under}
use Rattle.b67_overlay.proofs.spans.is_in_slot.Goals as goal

pub overflow_mul-base : goal.overflow_mul-base
overflow_mul-base c =
    let (core, low, p, l, h) = c.requires in
    rw (c.from-size.ensures, l.slots.regs.size) (omega (arith, slot_low core c.args.regs.now low p c.args.slot l h, l.inside, l.small))

pub overflow_add-base : goal.overflow_add-base
overflow_add-base c =
    let (core, low, p, l, h) = c.requires in
    rw (c.from-size.ensures, l.slots.regs.size, l.slots.regs.stacks) (omega (arith, slot_low core c.args.regs.now low p c.args.slot l h, l.inside, l.small))

pub overflow_add-result : goal.overflow_add-result
overflow_add-result c =
    let (core, low, p, l, h) = c.requires in
    rw (c.from-size.ensures, l.slots.regs.size, l.slots.regs.stacks) (omega (arith, slot_low core c.args.regs.now low p c.args.slot l h, l.inside, l.small))

pub returns-then-address-base : goal.returns-then-address-base
returns-then-address-base c = λ core low p l h. in_slot_under core c.args.regs.now low p c.args.slot c.args.address c.from-size.result l c.from-size.ensures c.if-address-base.true

pub returns : goal.returns
returns c = λ core low p l h. in_slot_over core c.args.regs.now low p c.args.slot c.args.address c.from-size.result l c.from-size.ensures c.if-address-base.false
