use Rattle.std.proofs.Common.{◌∙◌}
use Rattle.b67_session.proofs.Endings.{ended_more, ended_all}
use Rattle.b67_session.proofs.deaths.all_ended.Goals as goal

pub loop-at-preserved : goal.loop-at-preserved
loop-at-preserved c = c.push.ensures.items ∙ ended_more c.args.ending c.loop-at.list.items c.args.numbers.now c.loop-at.at _ c.loop-at-test.true c.loop-at.invariant

pub returns : goal.returns
returns c = ended_all c.args.ending c.loop-at.list.items c.args.numbers.now c.loop-at.at c.loop-at-test.false c.loop-at.invariant
