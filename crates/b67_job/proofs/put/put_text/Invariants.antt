use Rattle.std.proofs.Common.{◌≤◌, ◌-◌, length, take}
use Rattle.b67_io.specs.Told.{Took}
use Rattle.b67_job.proofs.put.put_text.Given as goal

abbrev pub invariant-put : goal.invariant-put
invariant-put g l = (l.done ≤ length l.text) × (g.K.Sink.faults l.initial.sink ≤ g.K.Sink.faults l.sink) × Took g.K.Sink.taken l.initial.sink l.sink (take l.done l.text)

abbrev pub decreases-put : goal.decreases-put
decreases-put g l = length l.text - l.done
