use Rattle.std.proofs.Common.{length, arith, ap}
use Rattle.std.proofs.lemmas.List.{length-map}
use Rattle.b67_task.specs.Tables.{switch_of}
use Rattle.b67_task.proofs.Lasting.{leave_switch, leave_quantum}
use Rattle.b67_task.proofs.turn_length.before_choice.Goals as goal

pub returns-then-next-switches : goal.returns-then-next-switches
returns-then-next-switches c = λ plan s o shows some.
    let tasks = c.args.tasks.now in
    leave_switch tasks.switches c.as_slice-switches.result.now (record { count = 0; job = 0; task = 0 }) s tasks.next_switch tasks.made c.saturating_sub.result c.as_slice-switches.ensures shows.counts.switches shows.counts.made o.switches shows.counts.past
    (omega arith) (omega (arith, c.saturating_sub.ensures)) some

pub returns : goal.returns
returns c = λ plan s o shows some.
    let tasks = c.args.tasks.now in
    leave_quantum tasks.switches s tasks.next_switch tasks.made c.from.result shows.counts.switches shows.counts.made shows.counts.past
    (omega (arith, length-map tasks.switches switch_of, ap length c.as_slice-switches.ensures)) (omega (arith, c.from.ensures, c.saturating_sub-2.ensures, shows.counts.turn, shows.counts.quantum, some))
