use Rattle.std.proofs.Common.{◌≤◌, [], ◌++◌, Ok, take}
use Rattle.std.specs.List.{flat_map}
use Rattle.b67_image.specs.Punching.{Punched}
use Rattle.b67_image.specs.Spelling.{two_bytes}
use Rattle.b67_image.proofs.writing.put_critical.Given as goal

abbrev pub invariant-each : goal.invariant-each
invariant-each g l = (g.K.Sink.faults l.fn.sink ≤ g.K.Sink.faults l.sink) × Punched g.K.Sink.taken l.fn.sink l.sink l.fn.hand l.hand (Ok tt) ([] ++ flat_map two_bytes (take l.n-index l.places))
