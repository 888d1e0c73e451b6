use Rattle.std.proofs.Common.{ap, ◌∙◌, arith, refl, Ok}
use Rattle.b67_ctl.specs.Layout.{irw_word}
use Rattle.b67_model.specs.declared.operators.Op.TheVariants.{Valc}
use Rattle.b67_model.specs.Common.{Name}
use Rattle.b67_exec_cells.proofs.Put.{room}
use Rattle.b67_fetch.proofs.Values.{here_scene, here_shown}
use Rattle.b67_exec.proofs.Valcs.{couple_stands, couple_reaches, couple_enters, couple_ends, couple_pushes}
use Rattle.b67_exec.proofs.Fars.{stayed_shortly, entered_shortly}
use Rattle.b67_exec.proofs.apart.makes_valc_from.Goals as goal

pub chase_from-requires : goal.chase_from-requires
chase_from-requires c =
    let q = c.requires.runs in
    let (couple, small, named) = c.requires.named in (
      here_scene q.storage c.args.cpu.now q.plan q.session q.member q.task q.ordered q.stands q.running,
      here_shown q.storage c.args.cpu.now q.plan q.session q.member q.task q.ordered q.stands q.running,
      irw_word (record { couple = couple }),
      named,
      0,
      0,
      Name couple,
      couple_stands c.args.cpu.now couple c.args.next (irw_word (record { couple = couple })) small refl q,
    )

pub accident-requires-clause-procedure : goal.accident-requires-clause-procedure
accident-requires-clause-procedure c =
    let (couple, small, named) = c.requires.named in
    couple_reaches c.args.cpu.now couple c.args.next (irw_word (record { couple = couple })) small refl c.chase_from.result (c.chase_from.ensures (irw_word (record { couple = couple })) named) c.requires.runs c.in-Proc.cell (c.in-Ok.is ∙ ap Ok c.in-Proc.is)

pub value-requires-clause-end : goal.value-requires-clause-end
value-requires-clause-end c =
    let (couple, small, named) = c.requires.named in
    couple_ends c.args.cpu.now couple c.args.next (irw_word (record { couple = couple })) small refl c.chase_from.result (c.chase_from.ensures (irw_word (record { couple = couple })) named) c.requires.runs c.in-Ok.end c.in-Ok.is

pub value-requires-clause-cells : goal.value-requires-clause-cells
value-requires-clause-cells c = let q = c.requires.runs in let r = (room q.storage c.args.cpu.now q.plan q.session q.member q.task q.ordered q.stands q.running).top in omega (arith, r)

pub returns-in-Proc : goal.returns-in-Proc
returns-in-Proc c = λ couple small named.
    entered_shortly (Valc couple) c.args.next c.args.cpu.now c.accident.new.cpu c.requires.runs c.accident.result c.has_entered.result c.has_entered.ensures
    (couple_enters c.args.cpu.now couple c.args.next (irw_word (record { couple = couple })) small refl c.chase_from.result (c.chase_from.ensures (irw_word (record { couple = couple })) named) c.in-Proc.cell (c.in-Ok.is ∙ ap Ok c.in-Proc.is) c.accident.result c.accident.new.cpu c.accident.ensures.row)

pub returns-in_default : goal.returns-in_default
returns-in_default c = λ couple small named.
    stayed_shortly (Valc couple) c.args.next c.args.cpu.now c.value.new.cpu c.requires.runs c.value.result c.has_stayed.result c.has_stayed.ensures
    (couple_pushes c.args.cpu.now couple c.args.next (irw_word (record { couple = couple })) small refl c.chase_from.result (c.chase_from.ensures (irw_word (record { couple = couple })) named) c.in-Ok.end c.in-Ok.is c.in_default.not-Proc c.value.result c.value.new.cpu c.value.ensures.row) c.value.ensures.stays
