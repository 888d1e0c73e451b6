use Rattle.std.proofs.Common.{sym, ap, ◌∙◌}
use Rattle.std.specs.List.{slice_get}
use Rattle.b67_area.specs.declared.Areas.{Areas}
use Rattle.b67_session.proofs.Turned.{runs_already}
use Rattle.b67_session.proofs.turns.give_turn.Goals as goal
use Rattle.b67_lemmas.proofs.Places.{get_within}

pub returns-then-machine-row-clause-len : goal.returns-then-machine-row-clause-len
returns-then-machine-row-clause-len c =
    let q = c.requires.row in
    let (r, at) = get_within c.args.machine.now.tasks.rows.items c.args.row q.inside in
    let after = c.switch_to.ensures.stands q.storage q.told q.plan q.session r q.ordered q.stands at in
    sym after.storage.size ∙ ap (λ (x : Areas). x.size) c.switch_to.ensures.areas ∙ q.stands.storage.size

pub returns-else-machine-row-clause-stands : goal.returns-else-machine-row-clause-stands
returns-else-machine-row-clause-stands c = λ x told plan s r o stands at.
    runs_already x told c.args.machine.now plan s r stands (ap (slice_get c.args.machine.now.tasks.rows.items) c.if-machine-row.false ∙ at)
