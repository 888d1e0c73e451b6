use Rattle.b67_image.specs.Giving.{read_many, read_number}
use Rattle.std.specs.Int.{w32}
use Rattle.b67_image.proofs.NumberLoops.{Continues}
use Rattle.b67_image.proofs.links.many_links.Given as goal

abbrev pub invariant-each : goal.invariant-each
invariant-each l = Continues (read_number w32) l.links l.count l.counter l.rest (read_many (read_number w32) l.count l.bytes)
