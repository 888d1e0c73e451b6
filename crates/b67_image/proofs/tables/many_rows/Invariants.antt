use Rattle.std.proofs.Common.{◌≡◌, length}
use Rattle.b67_image.specs.Reading.{read_row}
use Rattle.b67_image.specs.Giving.{read_many}
use Rattle.b67_image.proofs.NumberLoops.{Continues}
use Rattle.b67_image.proofs.tables.many_rows.Given as goal

abbrev pub invariant-each : goal.invariant-each
invariant-each l = (length l.rows.items ≡ l.counter) × Continues read_row l.rows.items l.count l.counter l.rest (read_many read_row l.count l.bytes)
