use Rattle.std.proofs.Common.{◌∙◌, map, ap, arith}
use Rattle.b67_codefile.specs.Meaning.{program_of}
use Rattle.std.specs.List.{slice_get}
use Rattle.std.proofs.lemmas.List.{length-map}
use Rattle.b67_stack.specs.declared.Cpu.{Cpu}
use Rattle.b67_session.proofs.InitialOpens.{each_is, laid_out, opens, after_calls}
use Rattle.b67_session.proofs.setting.set_up.Goals as goal

pub returns-clause-opens : goal.returns-clause-opens
returns-clause-opens g c =
    opens g.B.Backing.holds
    (record { core = c.args.core; table = c.args.sectors.now; device = c.args.backing.now })
    (record { core = c.install_all.new.cpu.core; table = c.install_all.new.sectors; device = c.install_all.new.backing })
    (record { core = c.lay_core-areas.new.core; regs = c.idle_registers-cpu.result; display = c.install_all.new.cpu.display; critical = c.install_all.new.cpu.critical })
    c.lay_core-areas.result c.args.stack (map program_of c.args.programs.now)
    c.requires.core.zeros (omega (arith, c.requires.core.slots.inside)) c.in_ok-stacks.ensures.installed c.install_all.ensures.spares
    (laid_out c.install_all.new.cpu.core _ c.lay_core-areas.result c.args.stack c.in_ok-stacks.stacks _ (map program_of c.args.programs.now)
    c.in_ok-stacks.ensures.end (omega (arith, length-map c.args.programs.now program_of, c.requires.core.slots.few))
    c.lay_core-areas.ensures.core c.lay_core-areas.ensures.areas c.lay_core-areas.ensures.directory (omega (arith, c.requires.core.slots.inside, c.in_ok-stacks.ensures.end, c.install_all.ensures.spares.len))
    (λ k h. ap (λ (z : Cpu). slice_get z.critical k) c.install_all.ensures.cpu ∙ each_is 0 120 k h)
    c.idle_registers-cpu.ensures.slot c.idle_registers-cpu.ensures.stacks c.idle_registers-cpu.ensures.size c.idle_registers-cpu.ensures.peak)

pub returns-in_err-stacks-clause-device : goal.returns-in_err-stacks-clause-device
returns-in_err-stacks-clause-device g c =
    let known = c.requires.sectors.known in
    after_calls g.B.Backing.holds g.B.Backing.size g.B.Backing.calls g.B.Backing.faults c.args.backing.now c.install_all.new.backing known.0.free
    c.install_all.ensures.device.size c.install_all.ensures.device.calls c.install_all.ensures.device.cause.later (c.install_all.ensures.spares.others known.0 known.1)

pub returns-clause-device : goal.returns-clause-device
returns-clause-device g c =
    let known = c.requires.sectors.known in
    after_calls g.B.Backing.holds g.B.Backing.size g.B.Backing.calls g.B.Backing.faults c.args.backing.now c.install_all.new.backing known.0.free
    c.install_all.ensures.device.size c.install_all.ensures.device.calls c.install_all.ensures.device.cause.later (c.install_all.ensures.spares.others known.0 known.1)
