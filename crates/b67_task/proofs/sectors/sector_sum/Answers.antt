use Rattle.std.proofs.Common.{◌∙◌}
use Rattle.b67_layout.specs.Layout.{machine_view}
use Rattle.b67_overlay.proofs.Turning.{lies_of}
use Rattle.b67_task.proofs.Sessions.{session_kept}
use Rattle.b67_task.proofs.sectors.sector_sum.Goals as goal

pub core_sectors-requires : goal.core_sectors-requires
core_sectors-requires c =
    let q = c.requires in
    let k = c.args.machine.now.cpu in
    (q.storage.low, machine_view q.plan q.session.jobs, lies_of q.storage k.core k.regs (machine_view q.plan q.session.jobs) q.stands.session.holds.memory)

pub returns : goal.returns
returns c = λ x told plan s o h.
    let k = c.args.machine.now.cpu in
    c.core_sectors.ensures x.low (machine_view plan s.jobs) (lies_of x k.core k.regs (machine_view plan s.jobs) h.session.holds.memory) ∙ session_kept x k plan s o h.session
