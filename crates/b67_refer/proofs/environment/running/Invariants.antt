use Rattle.b67_refer.specs.RunningContext.{RunningContext}
use Rattle.b67_refer.proofs.Turns.{On}
use Rattle.b67_refer.proofs.environment.running.Given as goal

abbrev pub invariant-down : goal.invariant-down
invariant-down l = (a : RunningContext l.core l.regs) → On l.core l.regs a l.at

abbrev pub decreases-down : goal.decreases-down
decreases-down l = l.at
