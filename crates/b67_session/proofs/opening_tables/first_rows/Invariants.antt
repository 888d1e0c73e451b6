use Rattle.std.proofs.Common.{◌≡◌, ◌++◌, length, map, drop}
use Rattle.b67_codefile.specs.Meaning.{program_of}
use Rattle.b67_session.specs.Tables.{first_rows}
use Rattle.b67_task.specs.Tables.{task_row}
use Rattle.b67_session.proofs.opening_tables.first_rows.Given as goal

abbrev pub invariant-rows : goal.invariant-rows
invariant-rows l =
    (map task_row l.rows.items ++ first_rows l.slot (map program_of (drop l.slot l.programs)) ≡ first_rows 0 (map program_of l.programs))
    × (length l.rows.items ≡ l.slot)
