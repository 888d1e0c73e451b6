use Rattle.std.proofs.Common.{◌∙◌}
use Rattle.b67_session.proofs.Deadlocks.{none_stuck, all_stuck}
use Rattle.b67_session.proofs.left.with_stuck.Goals as goal

pub returns-then-goes : goal.returns-then-goes
returns-then-goes c = λ plan s m number ending holds among job e.
    none_stuck plan s c.args.tasks.now holds m among c.args.dead.now number ending e c.args.job job c.if-goes.true c.requires.seen c.copied-list.result.items c.copied-list.ensures

pub returns : goal.returns
returns c = λ plan s m number ending holds among job e.
    all_stuck plan s c.args.tasks.now holds m among c.args.dead.now number ending e c.args.job job c.if-goes.false c.requires.seen c.copied-list.result.items c.copied-list.ensures
    c.as_slice.result.now (c.as_slice.ensures.value ∙ c.live_of-live.ensures plan s m holds among job) c.add_stuck.new.list.items c.add_stuck.ensures
