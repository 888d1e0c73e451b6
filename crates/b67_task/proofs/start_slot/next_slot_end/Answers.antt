use Rattle.b67_task.proofs.Opens.{end_is, slots_start}
use Rattle.b67_task.proofs.start_slot.next_slot_end.Goals as goal

pub lowest_free-slot-requires : goal.lowest_free-slot-requires
lowest_free-slot-requires c =
    let q = c.requires in
    record { storage = q.storage; marks = c.args.cpu.now.critical; plan = q.plan; session = q.session; holds = q.stands.holds }

pub returns : goal.returns
returns c = λ x plan s h.
    let l = c.lowest_free-slot.ensures x c.args.cpu.now.critical plan s h.holds in
    let at = slots_start x c.args.cpu.now.core c.args.cpu.now.regs c.args.cpu.now.critical plan s h.holds in
    (c.lowest_free-slot.result, l.0, end_is c.args.cpu.now.regs.stacks c.args.cpu.now.regs.stack_size c.from.result c.from-2.result c.lowest_free-slot.result plan at.0 at.1 c.from.ensures c.from-2.ensures)
