use Rattle.std.proofs.Common.{arith, sym, ◌∙◌}
use Rattle.b67_session.specs.Closing.{left_ready}
use Rattle.b67_session.proofs.Searches.{none_more, one_passes, none_passes}
use Rattle.b67_session.proofs.left.goes_on.Goals as goal

pub loop-at-preserved : goal.loop-at-preserved
loop-at-preserved c =
    none_more (left_ready c.args.job c.args.dead.now) c.deref.result.now c.args.tasks.now.rows.items c.loop-at.at _ c.deref.ensures.0 (omega (arith, c.loop-at-test.true, c.len-at-end.ensures.value)) c.loop-at.invariant
    (sym c.if-is_left_ready.false ∙ c.is_left_ready.ensures)

pub returns-then-is_left_ready : goal.returns-then-is_left_ready
returns-then-is_left_ready c =
    one_passes (left_ready c.args.job c.args.dead.now) c.deref.result.now c.args.tasks.now.rows.items c.loop-at.at _ c.deref.ensures.0 (omega (arith, c.loop-at-test.true, c.len-at-end.ensures.value))
    (sym c.if-is_left_ready.true ∙ c.is_left_ready.ensures)

pub returns : goal.returns
returns c = none_passes (left_ready c.args.job c.args.dead.now) c.args.tasks.now.rows.items c.loop-at.at (omega (arith, c.loop-at-test.false, c.len-at-end.ensures.value)) c.loop-at.invariant
