use Rattle.std.proofs.Common.{ap, ◌∙◌, arith, Ok}
use Rattle.b67_model.specs.declared.operators.Op.TheVariants.{Valc}
use Rattle.b67_model.specs.Common.{Name}
use Rattle.b67_stack.specs.declared.Step.TheVariants.{Fault}
use Rattle.b67_refer.specs.RunningContext.{live_of}
use Rattle.b67_exec_cells.proofs.Put.{room}
use Rattle.b67_fetch.proofs.Values.{here_scene, here_shown}
use Rattle.b67_exec.proofs.Valcs.{couple_stands, couple_faults, couple_reaches, couple_enters, couple_ends, couple_pushes}
use Rattle.b67_exec.proofs.Fars.{stayed_by, entered_by}
use Rattle.b67_exec.proofs.apart.makes_far_valc.Goals as goal

pub chase-requires : goal.chase-requires
chase-requires c =
    let q = c.requires.runs in (
      live_of (here_scene q.storage c.args.cpu.now q.plan q.session q.member q.task q.ordered q.stands q.running),
      here_shown q.storage c.args.cpu.now q.plan q.session q.member q.task q.ordered q.stands q.running,
      0,
      0,
      Name c.args.couple,
      couple_stands c.args.cpu.now c.args.couple c.args.next c.word.result c.requires.couple c.word.ensures q,
    )

pub accident-requires-clause-procedure : goal.accident-requires-clause-procedure
accident-requires-clause-procedure c =
    couple_reaches c.args.cpu.now c.args.couple c.args.next c.word.result c.requires.couple c.word.ensures c.chase.result c.chase.ensures.running c.requires.runs c.in-Proc.cell (c.in-Ok.is ∙ ap Ok c.in-Proc.is)

pub value-requires-clause-end : goal.value-requires-clause-end
value-requires-clause-end c = couple_ends c.args.cpu.now c.args.couple c.args.next c.word.result c.requires.couple c.word.ensures c.chase.result c.chase.ensures.running c.requires.runs c.in-Ok.end c.in-Ok.is

pub value-requires-clause-cells : goal.value-requires-clause-cells
value-requires-clause-cells c = let q = c.requires.runs in let r = (room q.storage c.args.cpu.now q.plan q.session q.member q.task q.ordered q.stands q.running).top in omega (arith, r)

pub returns-in-Err : goal.returns-in-Err
returns-in-Err c =
    stayed_by (Valc c.args.couple) c.args.next c.args.cpu.now c.args.cpu.now c.requires.runs (Fault c.in-Err.fault) c.stayed.result c.stayed.new.why c.stayed.ensures
    (couple_faults c.args.cpu.now c.args.couple c.args.next c.word.result c.requires.couple c.word.ensures c.chase.result c.chase.ensures.running c.in-Err.fault c.in-Err.is) (λ e. let z : ⊥ = cc in absurd z)

pub returns-in-Proc : goal.returns-in-Proc
returns-in-Proc c =
    entered_by (Valc c.args.couple) c.args.next c.args.cpu.now c.accident.new.cpu c.requires.runs c.accident.result c.entered.result c.entered.new.why c.entered.ensures
    (couple_enters c.args.cpu.now c.args.couple c.args.next c.word.result c.requires.couple c.word.ensures c.chase.result c.chase.ensures.running c.in-Proc.cell (c.in-Ok.is ∙ ap Ok c.in-Proc.is) c.accident.result c.accident.new.cpu c.accident.ensures.row)

pub returns-in_default : goal.returns-in_default
returns-in_default c =
    stayed_by (Valc c.args.couple) c.args.next c.args.cpu.now c.value.new.cpu c.requires.runs c.value.result c.stayed-in_default.result c.stayed-in_default.new.why c.stayed-in_default.ensures
    (couple_pushes c.args.cpu.now c.args.couple c.args.next c.word.result c.requires.couple c.word.ensures c.chase.result c.chase.ensures.running c.in-Ok.end c.in-Ok.is c.in_default.not-Proc c.value.result c.value.new.cpu c.value.ensures.row) c.value.ensures.stays
