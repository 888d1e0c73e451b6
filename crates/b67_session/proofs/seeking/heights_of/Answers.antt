use Rattle.b67_task.proofs.Turns.{seen_row}
use Rattle.b67_session.proofs.Standing.{chosen_running, chosen_waiting, chosen_waits}
use Rattle.b67_session.proofs.seeking.heights_of.Goals as goal

pub returns-then-machine-chosen : goal.returns-then-machine-chosen
returns-then-machine-chosen c = λ x told plan s m t w.
    chosen_running x told c.args.machine.now plan s m t c.args.chosen w c.if-machine-chosen.true c.heights_here.result.top c.heights_here.result.mark c.heights_here.ensures.top c.heights_here.ensures.mark

pub heights_waiting-requires : goal.heights_waiting-requires
heights_waiting-requires c =
    let i = c.requires in
    chosen_waits i.storage i.told c.args.machine.now i.plan i.session i.member i.task c.args.chosen i.stands c.if-machine-chosen.false _
    (seen_row c.args.machine.now.tasks.rows.items c.deref.result.now c.args.chosen.row i.stands.row.row _ c.deref.ensures.0 i.stands.row.there)

pub returns : goal.returns
returns c = λ x told plan s m t w.
    chosen_waiting x told c.args.machine.now plan s m t c.args.chosen w c.if-machine-chosen.false _
    (seen_row c.args.machine.now.tasks.rows.items c.deref.result.now c.args.chosen.row w.row.row _ c.deref.ensures.0 w.row.there)
    c.heights_waiting.result.top c.heights_waiting.result.mark c.heights_waiting.ensures
