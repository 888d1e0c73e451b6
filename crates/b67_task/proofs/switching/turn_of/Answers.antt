use Rattle.std.proofs.Common.{ap, arith}
use Rattle.b67_task.specs.declared.tables.TaskRow.{TaskRow}
use Rattle.b67_task.proofs.Turns.{turn_known, seen_row, seen_one, seen_inside, seen_fits, seen_turn}
use Rattle.b67_task.proofs.switching.turn_of.Goals as goal
use Rattle.b67_lemmas.proofs.Places.{get_within}

pub overflow_sub-job : goal.overflow_sub-job
overflow_sub-job c =
    let (plan, s, q) = c.requires.known in
    let (r, at) = get_within c.args.tasks.now.rows.items c.args.row c.requires.inside in
    let k = turn_known c.args.tasks.now plan s q c.args.row r at in
    seen_one c.args.tasks.now plan s r k _ (seen_row c.args.tasks.now.rows.items c.deref.result.now c.args.row r _ c.deref.ensures.0 at) c.as_slice.result.now c.as_slice.ensures

pub bounds-as_slice-row : goal.bounds-as_slice-row
bounds-as_slice-row c =
    let (plan, s, q) = c.requires.known in
    let (r, at) = get_within c.args.tasks.now.rows.items c.args.row c.requires.inside in
    let k = turn_known c.args.tasks.now plan s q c.args.row r at in
    seen_inside c.args.tasks.now plan s r k _ (seen_row c.args.tasks.now.rows.items c.deref.result.now c.args.row r _ c.deref.ensures.0 at) c.as_slice.result.now c.as_slice.ensures

pub overflow_add-result : goal.overflow_add-result
overflow_add-result c =
    let (plan, s, q) = c.requires.known in
    let (r, at) = get_within c.args.tasks.now.rows.items c.args.row c.requires.inside in
    let k = turn_known c.args.tasks.now plan s q c.args.row r at in
    let h = seen_fits c.args.tasks.now plan s r k _ (seen_row c.args.tasks.now.rows.items c.deref.result.now c.args.row r _ c.deref.ensures.0 at) c.as_slice.result.now c.as_slice.ensures c.index-as_slice-row.result c.index-as_slice-row.is in
    omega (arith, h)

pub returns-clause-turn : goal.returns-clause-turn
returns-clause-turn c = λ plan s q.
    let (r, at) = get_within c.args.tasks.now.rows.items c.args.row c.requires.inside in
    let k = turn_known c.args.tasks.now plan s q c.args.row r at in
    seen_turn c.args.tasks.now plan s r k _ (seen_row c.args.tasks.now.rows.items c.deref.result.now c.args.row r _ c.deref.ensures.0 at) c.as_slice.result.now c.as_slice.ensures c.index-as_slice-row.result c.index-as_slice-row.is

pub returns-clause-slot : goal.returns-clause-slot
returns-clause-slot c = λ r at. ap (λ (z : TaskRow). z.slot) (seen_row c.args.tasks.now.rows.items c.deref.result.now c.args.row r _ c.deref.ensures.0 at)
