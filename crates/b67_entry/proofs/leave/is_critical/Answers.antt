use Rattle.std.proofs.Common.{arith}
use Rattle.b67_entry.proofs.Criticals.{slot_small, base_low, tells_critical}
use Rattle.b67_entry.proofs.leave.is_critical.Goals as goal

pub bounds-cpu-from : goal.bounds-cpu-from
bounds-cpu-from c = let r = c.requires in omega (arith, c.from.ensures, slot_small r.storage c.args.cpu.now r.plan r.session r.member r.task r.ordered r.stands r.running)

pub overflow_sub-result : goal.overflow_sub-result
overflow_sub-result c = let r = c.requires in base_low r.storage c.args.cpu.now r.plan r.session r.member r.task r.ordered r.stands r.running

pub returns : goal.returns
returns c = λ x plan s m t o h runs. tells_critical x c.args.cpu.now plan s m t o h runs c.from.result c.from-2.result c.from.ensures c.from-2.ensures
