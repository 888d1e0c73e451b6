-- The rows of tasks once a cell is caused.
use Rattle.std.specs.Prelude.{ℕ, ◌==◌, ◌&&◌, if◌then◌else◌}
use Rattle.b67_task.specs.declared.tables.TaskState.{TaskState}
use Rattle.b67_task.specs.declared.tables.TaskState.TheVariants.{Ready, Awaits, WaitsAt}
use Rattle.b67_task.specs.declared.tables.TaskRow.{TaskRow}

-- ready where it waited at this cell
abbrev pub woken_state : ℕ → ℕ → TaskState → TaskState
woken_state mark offset Ready = Ready
woken_state mark offset (Awaits n) = Awaits n
woken_state mark offset (WaitsAt at other) = if (at == mark) && (other == offset) then Ready else WaitsAt at other

-- the tasks of a job alone
abbrev pub woken_row : ℕ → ℕ → ℕ → TaskRow → TaskRow
woken_row job mark offset row = if row.job == job then record row { state = woken_state mark offset row.state } else row
