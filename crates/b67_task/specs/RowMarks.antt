-- The marks on which live tasks depend, by the rows of the table.
use Rattle.std.specs.Prelude.{◌≡◌, ℕ, ◌<◌, ◌==◌, max, List, [], ◌∷◌, Some, slice_get, if◌then◌else◌}
use Rattle.b67_model.specs.declared.limits.TheConstants.{MOST_STACKS}
use Rattle.b67_task.specs.declared.tables.TaskRow.{TaskRow}

-- the topmost mark in a slot on which a task of these rows depends, 0 for none
abbrev pub top_critical : ℕ → List TaskRow → ℕ
top_critical k [] = 0
top_critical k (r ∷ rows) = if r.parent == k then max r.critical (top_critical k rows) else top_critical k rows

-- that of each slot
abbrev pub ShowsMarks : List ℕ → List TaskRow → Type 0
ShowsMarks marks rows = (k : ℕ) → k < MOST_STACKS → slice_get marks k ≡ Some (top_critical k rows)

-- the row's task depends on its mark
abbrev pub Raised : List ℕ → List ℕ → TaskRow → Type 0
Raised old new r = (k n : ℕ) → k < MOST_STACKS → slice_get old k ≡ Some n → slice_get new k ≡ Some (if r.parent == k then max n r.critical else n)
