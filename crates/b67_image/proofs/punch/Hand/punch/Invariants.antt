use Rattle.std.proofs.Common.{◌≤◌, Ok, take}
use Rattle.b67_image.specs.Punching.{Punched}
use Rattle.b67_image.proofs.punch.Hand.punch.Given as goal

abbrev pub invariant-bytes : goal.invariant-bytes
invariant-bytes g l = (g.K.Sink.faults l.initial.sink ≤ g.K.Sink.faults l.sink) × Punched g.K.Sink.taken l.initial.sink l.sink l.initial.self l.self (Ok tt) (take l.byte-index l.bytes)
