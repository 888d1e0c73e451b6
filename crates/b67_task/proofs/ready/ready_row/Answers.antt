use Rattle.std.proofs.Common.{◌∙◌, sym, arith}
use Rattle.std.proofs.lemmas.Option.{slice_get_within}
use Rattle.b67_task.specs.Chosen.{who_is}
use Rattle.b67_task.proofs.Nearer.{seen, not_here}
use Rattle.b67_task.proofs.ready.ready_row.Goals as goal

pub loop-at-preserved : goal.loop-at-preserved
loop-at-preserved c =
    not_here c.args.rows.now c.loop-at.at _ (seen c.args.rows.now c.loop-at.at _ (omega arith)) (who_is c.args.who) (sym c.is_row_of.ensures ∙ c.if-is_row_of.false) c.loop-at.invariant

pub returns : goal.returns
returns c = λ i a. c.loop-at.invariant i (omega (arith, slice_get_within c.args.rows.now i a.row a.at)) a
