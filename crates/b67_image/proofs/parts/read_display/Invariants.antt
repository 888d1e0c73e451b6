use Rattle.std.proofs.Common.{length, take}
use Rattle.std.specs.Int.{w32}
use Rattle.b67_image.specs.Giving.{read_number, read_many}
use Rattle.b67_image.proofs.NumberLoops.{Continues}
use Rattle.b67_image.proofs.parts.read_display.Given as goal

abbrev pub invariant-each : goal.invariant-each
invariant-each l = Continues (read_number w32) (take l.at l.into) (length l.fn.into) l.at l.rest (read_many (read_number w32) (length l.fn.into) l.bytes)
