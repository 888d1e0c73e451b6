use Rattle.std.specs.Prelude.{map}
use Rattle.b67_task.specs.Tables.{switch_of}
use Rattle.b67_task.specs.Counted.{Past}
use Rattle.b67_task.proofs.switches.due_switch.Given as goal

abbrev pub invariant-loop-at : goal.invariant-loop-at
invariant-loop-at l = Past l.from l.made (map switch_of l.switches) → Past l.at l.made (map switch_of l.switches)
