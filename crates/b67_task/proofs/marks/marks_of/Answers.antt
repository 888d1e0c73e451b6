use Rattle.std.proofs.Common.{refl, arith}
use Rattle.b67_task.proofs.Marking.{marks_first, marks_more, marks_all}
use Rattle.b67_task.proofs.marks.marks_of.Goals as goal

pub loop-at-init : goal.loop-at-init
loop-at-init c = marks_first _ c.args.rows.now refl

pub loop-at-preserved : goal.loop-at-preserved
loop-at-preserved c = marks_more c.loop-at.marks c.depend.new.marks c.args.rows.now c.loop-at.at _ (omega (arith, c.loop-at-test.true)) c.loop-at.invariant c.depend.ensures

pub returns : goal.returns
returns c = marks_all c.loop-at.marks c.args.rows.now c.loop-at.at (omega (arith, c.loop-at-test.false)) c.loop-at.invariant
