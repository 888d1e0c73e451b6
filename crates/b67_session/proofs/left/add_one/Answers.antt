use Rattle.b67_session.proofs.Deadlocks.{joined_none, joined_one}
use Rattle.b67_session.proofs.left.add_one.Goals as goal

pub returns-then-is_among-clause-all : goal.returns-then-is_among-clause-all
returns-then-is_among-clause-all c = joined_none c.args.dead.now c.args.number c.args.list.now.items (c.if-is_among.true) c.is_among.ensures

pub returns-clause-all : goal.returns-clause-all
returns-clause-all c = joined_one c.args.dead.now c.args.number c.args.list.now.items c.push.new.self.items c.if-is_among.false c.is_among.ensures c.push.ensures.items
