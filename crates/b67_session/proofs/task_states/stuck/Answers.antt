use Rattle.b67_session.proofs.HeldStuck.{none_stuck, all_stuck}
use Rattle.b67_session.proofs.task_states.stuck.Goals as goal

pub returns-then-goes : goal.returns-then-goes
returns-then-goes c = λ plan s m h inm own. none_stuck plan s c.args.tasks.now h m inm c.args.job own c.args.goes c.if-goes.true c.requires.seen c.new.result.items c.new.ensures

pub returns : goal.returns
returns c = λ plan s m h inm own.
    all_stuck plan s c.args.tasks.now h m inm c.args.job own c.args.goes c.if-goes.false c.requires.seen c.all_ended.result.items c.live_of.result.items c.as_slice.result.now (c.live_of.ensures plan s m h inm own) c.as_slice.ensures.value c.all_ended.ensures
