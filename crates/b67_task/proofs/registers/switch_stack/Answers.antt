use Rattle.std.proofs.Common.{[]}
use Rattle.b67_layout.specs.Layout.{machine_view}
use Rattle.b67_refer.proofs.Scenes.{scene}
use Rattle.b67_task.specs.Turns.{with_running}
use Rattle.b67_task.proofs.Loading.{stack_then, waits_then, runs_then, holds_then}
use Rattle.b67_task.proofs.registers.switch_stack.Goals as goal

pub registers-cpu-requires : goal.registers-cpu-requires
registers-cpu-requires c =
    let q = c.requires in
    let k = c.put_away.new.cpu in
    let h = (c.put_away.ensures.stands q.storage q.plan q.session q.stands).holds in
    record {
      storage = q.storage;
      machine_view = machine_view (with_running q.plan 255) q.session.jobs;
      stack = stack_then q.storage k.core k.regs k.critical q.plan q.session q.member q.task c.args.turn h q.waits;
      stands = h.memory;
      waits = waits_then q.storage k.core k.regs k.critical q.plan q.session q.member q.task c.args.turn h q.waits;
    }

pub rebuild-requires : goal.rebuild-requires
rebuild-requires c =
    let q = c.requires in
    let k = c.put_away.new.cpu in
    let h = (c.put_away.ensures.stands q.storage q.plan q.session q.stands).holds in
    let is = c.registers-cpu.ensures q.storage (machine_view (with_running q.plan 255) q.session.jobs) (stack_then q.storage k.core k.regs k.critical q.plan q.session q.member q.task c.args.turn h q.waits) h.memory
    (waits_then q.storage k.core k.regs k.critical q.plan q.session q.member q.task c.args.turn h q.waits) in
    scene [] q.storage k.core c.registers-cpu.result k.critical (with_running q.plan c.args.turn.slot) q.session q.member q.task q.ordered
    (holds_then q.storage k.core k.regs k.critical q.plan q.session q.member q.task c.args.turn h q.waits c.registers-cpu.result is)
    (runs_then q.storage k.core k.regs k.critical q.plan q.session q.member q.task c.args.turn h q.waits)

pub returns-clause-stands : goal.returns-clause-stands
returns-clause-stands c = λ x plan s m t o stands q.
    let k = c.put_away.new.cpu in
    let h = (c.put_away.ensures.stands x plan s stands).holds in
    let is = c.registers-cpu.ensures x (machine_view (with_running plan 255) s.jobs) (stack_then x k.core k.regs k.critical plan s m t c.args.turn h q) h.memory (waits_then x k.core k.regs k.critical plan s m t c.args.turn h q) in
    let holds = holds_then x k.core k.regs k.critical plan s m t c.args.turn h q c.registers-cpu.result is in
    record {
      holds = holds;
      shows = λ y u runs. c.rebuild.ensures (scene [] x k.core c.registers-cpu.result k.critical (with_running plan c.args.turn.slot) s y u o holds runs);
    }
