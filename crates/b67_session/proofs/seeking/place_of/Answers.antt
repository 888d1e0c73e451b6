use Rattle.std.proofs.Common.{ap, ◌∙◌}
use Rattle.b67_lemmas.proofs.Places.{get_within}
use Rattle.b67_task.specs.declared.tables.TaskRow.{TaskRow}
use Rattle.b67_task.proofs.Turns.{seen_row}
use Rattle.b67_session.proofs.Standing.{code_place, its_who, in_registers, in_row}
use Rattle.b67_session.proofs.seeking.place_of.Goals as goal

pub returns-then-machine-chosen : goal.returns-then-machine-chosen
returns-then-machine-chosen c = λ said s m t n h same ready.
    let (r, at) = get_within c.args.machine.now.tasks.rows.items c.args.chosen.row c.requires in
    let regs = c.args.machine.now.cpu.regs in
    ap (λ (z : TaskRow). code_place z.job regs.segment regs.place) (seen_row c.args.machine.now.tasks.rows.items c.deref.result.now c.args.chosen.row r _ c.deref.ensures.0 at)
    ∙ in_registers said c.args.machine.now s m t n h c.args.chosen.row r at (its_who c.args.machine.now.tasks.rows.items c.args.chosen s m t n same ready r at) c.if-machine-chosen.true

pub returns : goal.returns
returns c = λ said s m t n h same ready.
    let (r, at) = get_within c.args.machine.now.tasks.rows.items c.args.chosen.row c.requires in
    ap (λ (z : TaskRow). code_place z.job z.segment z.place) (seen_row c.args.machine.now.tasks.rows.items c.deref.result.now c.args.chosen.row r _ c.deref.ensures.0 at)
    ∙ in_row said c.args.machine.now s m t n h c.args.chosen.row r at (its_who c.args.machine.now.tasks.rows.items c.args.chosen s m t n same ready r at) c.if-machine-chosen.false
