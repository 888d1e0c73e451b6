-- The rows of those who stay when tasks of a job end, and the slots of those who go.
use Rattle.std.specs.Prelude.{ℕ, ◌==◌, ◌&&◌, not, Bool, List, map, filter, find, option_map, unwrap_or, if◌then◌else◌}
use Rattle.b67_ctl.specs.declared.registers.TheConstants.{NO_SLOT}
use Rattle.b67_model.specs.Endings.{among}
use Rattle.b67_task.specs.declared.tables.TaskState.{TaskState}
use Rattle.b67_task.specs.declared.tables.TaskState.TheVariants.{Ready, Awaits, WaitsAt}
use Rattle.b67_task.specs.declared.tables.TaskRow.{TaskRow}

-- awaits one of these no more
abbrev pub freed_state : List ℕ → TaskState → TaskState
freed_state numbers Ready = Ready
freed_state numbers (Awaits n) = if among numbers n then Ready else Awaits n
freed_state numbers (WaitsAt mark offset) = WaitsAt mark offset

abbrev pub freed : ℕ → List ℕ → TaskRow → TaskRow
freed j numbers r = if r.job == j then record r { state = freed_state numbers r.state } else r

abbrev pub row_is_kept : ℕ → List ℕ → TaskRow → Bool
row_is_kept j numbers r = not ((r.job == j) && among numbers r.number)

abbrev pub rows_left : ℕ → List ℕ → List TaskRow → List TaskRow
rows_left j numbers rows = map (freed j numbers) (filter (row_is_kept j numbers) rows)

abbrev pub is_of : ℕ → ℕ → TaskRow → Bool
is_of j number r = (r.job == j) && (r.number == number)

-- the slot in the first row of a job's task of a number, NO_SLOT for none
abbrev pub slot_shown : ℕ → ℕ → List TaskRow → ℕ
slot_shown j number rows = unwrap_or (option_map (λ (r : TaskRow). r.slot) (find (is_of j number) rows)) NO_SLOT
