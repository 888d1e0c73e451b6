use Rattle.std.proofs.Common.{ap}
use Rattle.b67_task.specs.declared.tables.TaskRow.{TaskRow}
use Rattle.b67_session.proofs.HeldStuck.{row_seen, state_set}
use Rattle.b67_session.proofs.task_states.set_state.Goals as goal

pub returns-clause-set : goal.returns-clause-set
returns-clause-set c = λ r here. state_set c.args.tasks.now c.args.at r _ c.deref.result.now here c.deref.ensures.0 c.deref_mut.result.now c.args.state c.deref_mut.ensures.value

pub returns-clause-was : goal.returns-clause-was
returns-clause-was c = λ r here. ap (λ (q : TaskRow). q.state) (row_seen c.args.tasks.now c.args.at r _ c.deref.result.now here c.deref.ensures.0)
