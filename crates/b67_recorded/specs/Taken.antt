-- The bytes that a record holds, told.
use Rattle.std.specs.Prelude.{ℕ, List, Option, Some}
use Rattle.b67_recorded.specs.declared.record.Record.{Record}

abbrev pub recorded : Record → Option (List ℕ)
recorded r = Some r.bytes
