use Rattle.std.proofs.Common.{sym}
use Rattle.b67_session.proofs.AtLimits.{not_made, made_all_is}
use Rattle.b67_session.proofs.limits.is_at_limit.Goals as goal

pub returns-then-not-has_made_all : goal.returns-then-not-has_made_all
returns-then-not-has_made_all c = λ plan s numbered shows. sym (not_made plan s c.args.tasks.now numbered shows c.if-not-has_made_all.ensures)

pub returns : goal.returns
returns c = λ plan s numbered shows. made_all_is plan s c.args.tasks.now numbered shows c.if-not-has_made_all.ensures c.has_row.result c.as_slice.result.now c.as_slice.ensures.value c.has_row.ensures
