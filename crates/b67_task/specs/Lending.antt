-- A list of jobs that is lent as a slice.
use Rattle.std.specs.Prelude.{List, ◌++◌, length, take, drop}
use Rattle.std.specs.Borrow.{Lends, MutBor, Fml, Array}
use Rattle.b67_task.specs.declared.tables.JobRow.{JobRow}
use Rattle.b67_task.specs.contracts.tables.JobRow as row
use Rattle.b67_task.specs.contracts.tables.JobRows.{the_row}

-- the list ends as the slice does, whose length stays
abbrev pub LendsJobs : MutBor (List JobRow) → MutBor (List JobRow) → Fml
LendsJobs s r = Lends the_row (Array row.the_row 0) s r (λ (w : List JobRow). take (length s.now) (w ++ drop (length w) s.now))
