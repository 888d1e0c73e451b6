use Rattle.std.proofs.Common.{◌∙◌}
use Rattle.std.proofs.lemmas.List.{take_all}
use Rattle.b67_session.proofs.Deadlocks.{copied_more}
use Rattle.b67_session.proofs.left.copied.Goals as goal

pub loop-at-preserved : goal.loop-at-preserved
loop-at-preserved c = copied_more c.loop-at.copy.items c.push.new.self.items c.args.list.now c.loop-at.at _ c.loop-at-test.true c.loop-at.invariant c.push.ensures.items

pub returns : goal.returns
returns c = c.loop-at.invariant ∙ take_all c.loop-at.at c.args.list.now c.loop-at-test.false
