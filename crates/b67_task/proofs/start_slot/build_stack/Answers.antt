use Rattle.std.proofs.Common.{arith}
use Rattle.b67_task.proofs.start_slot.build_stack.Goals as goal

pub returns-clause-stack : goal.returns-clause-stack
returns-clause-stack c =
    let i = c.loop-i.invariant in
    record { top = i.1; mark = i.2; back = i.3; cells = λ at low. i.4 at (omega (arith, low, c.loop-i-test.false)) }
