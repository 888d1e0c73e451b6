use Rattle.b67_task.proofs.Rising.{left_of}
use Rattle.b67_task.proofs.switches.is_left.Goals as goal

pub returns-then-len-gt0 : goal.returns-then-len-gt0
returns-then-len-gt0 c = λ rise. left_of c.args.switches.now c.args.made (record { count = 0; job = 0; task = 0 }) c.if-len-gt0.true rise
