use Rattle.std.proofs.Common.{◌+◌, map, arith}
use Rattle.std.proofs.lemmas.List.{length-map}
use Rattle.b67_task.specs.Tables.{switch_of}
use Rattle.b67_task.proofs.Counts.{past_grown}
use Rattle.b67_task.proofs.Nearer.{seen}
use Rattle.b67_task.proofs.Rising.{named, none_named, all_past}
use Rattle.b67_task.proofs.switches.due_switch.Goals as goal
use Rattle.b67_lemmas.proofs.Places.{at_mapped}

pub returns-then-switch-made : goal.returns-then-switch-made
returns-then-switch-made c = λ rise past.
    named (map switch_of c.args.switches.now) c.loop-at.at c.args.made (c.loop-at.invariant past) _
    (at_mapped switch_of c.args.switches.now c.loop-at.at _ (seen c.args.switches.now c.loop-at.at _ (omega arith))) c.if-switch-made.true

pub returns-then-switch-made-2 : goal.returns-then-switch-made-2
returns-then-switch-made-2 c = λ rise past.
    none_named (map switch_of c.args.switches.now) c.loop-at.at c.args.made (c.loop-at.invariant past) _ rise
    (at_mapped switch_of c.args.switches.now c.loop-at.at _ (seen c.args.switches.now c.loop-at.at (record { count = 0; job = 0; task = 0 }) (omega arith))) c.if-switch-made-2.true

pub loop-at-preserved : goal.loop-at-preserved
loop-at-preserved c = λ past. past_grown c.args.switches.now c.loop-at.at c.args.made (c.loop-at.at + 1) (record { count = 0; job = 0; task = 0 }) (omega arith) (omega arith) (omega arith) (c.loop-at.invariant past)

pub returns : goal.returns
returns c = λ rise past.
    all_past (map switch_of c.args.switches.now) c.loop-at.at c.args.made (c.loop-at.invariant past) (omega (arith, length-map c.args.switches.now switch_of))
