use Rattle.b67_task.proofs.Living.{NoneBefore}
use Rattle.b67_task.proofs.states.state_in.Given as goal

abbrev pub invariant-loop-at : goal.invariant-loop-at
invariant-loop-at l = NoneBefore l.rows l.at l.job l.number
