use Rattle.std.proofs.Common.{◌≤◌, ◌++◌, Ok, length, take}
use Rattle.std.specs.List.{flat_map}
use Rattle.b67_image.specs.Punching.{Punched}
use Rattle.b67_image.specs.Spelling.{four_bytes, signed_bytes}
use Rattle.b67_image.proofs.writing.put_numbers.Given as goal

abbrev pub invariant-each : goal.invariant-each
invariant-each g l = (g.K.Sink.faults l.fn.sink ≤ g.K.Sink.faults l.sink) × Punched g.K.Sink.taken l.fn.sink l.sink l.fn.hand l.hand (Ok tt) (four_bytes (length l.numbers) ++ flat_map signed_bytes (take l.at l.numbers))
