-- The rows of the tasks that are ready, and the task that makes the next operator.
use Rattle.std.specs.Prelude.{◌≡◌, ℕ, ◌+◌, ◌*◌, ◌^◌, ◌-◌, ◌%◌, ◌<◌, ◌&&◌, ◌||◌, nat_lt, Bool, true, false, List, Option, Some, None, slice_get}
use Rattle.std.specs.List.{list_any}
use Rattle.b67_lemmas.specs.Lists.{Has}
use Rattle.b67_model.specs.Schedule.{Who, Switch, Session, Choice, is_same, is_before, goes_on}
use Rattle.b67_task.specs.declared.tables.TaskState.{TaskState}
use Rattle.b67_task.specs.declared.tables.TaskState.TheVariants.{Ready, Awaits, WaitsAt}
use Rattle.b67_task.specs.declared.tables.TaskRow.{TaskRow}
use Rattle.b67_task.specs.declared.counting.Chosen.{Chosen}
use Rattle.b67_task.specs.declared.ready.Who as declared
use Rattle.b67_task.specs.Counted.{choice_of}

abbrev pub who_is : declared.Who → Who
who_is w = record { job = w.job; task = w.task }

abbrev pub who_of : TaskRow → Who
who_of r = record { job = r.job; task = r.number }

abbrev pub is_ready_state : TaskState → Bool
is_ready_state Ready = true
is_ready_state (Awaits n) = false
is_ready_state (WaitsAt mark offset) = false

-- a ready task's row: that of this task
abbrev pub is_ready_row_of : Who → TaskRow → Bool
is_ready_row_of who r = is_ready_state r.state && is_same (who_of r) who

-- a row is that of a ready task
pub record IsReadyAt (rows : List TaskRow) (i : ℕ) (who : Who) : Type 0 where
  pub row : TaskRow
  pub at : slice_get rows i ≡ Some row
  pub ready : is_ready_state row.state ≡ true
  pub is : who_of row ≡ who

-- the row of a task, where it is ready
abbrev pub ReadyRow : List TaskRow → Who → Option ℕ → Type 0
ReadyRow rows who None = (i : ℕ) → IsReadyAt rows i who → ⊥
ReadyRow rows who (Some i) = IsReadyAt rows i who

-- which of two tasks comes first in a circle, by whether each comes after its beginning, and by their order
abbrev pub in_circle : Bool → Bool → Bool → Bool
in_circle true false before = true
in_circle false true before = false
in_circle true true before = before
in_circle false false before = before

-- whether a task comes before another in the circle that begins behind a last one
abbrev pub is_sooner : Who → Who → Who → Bool
is_sooner last a b = in_circle (is_before last a) (is_before last b) (is_before a b)

-- among the first n rows, that of the first ready task in the circle that begins behind another
pub record IsNextAt (n : ℕ) (rows : List TaskRow) (last : Who) (i : ℕ) : Type 0 where
  pub who : Who
  pub at : IsReadyAt rows i who
  pub first : (k : ℕ) (w : Who) → k < n → IsReadyAt rows k w → is_sooner last w who ≡ false

abbrev pub NextRow : ℕ → List TaskRow → Who → Option ℕ → Type 0
NextRow n rows last None = (k : ℕ) (w : Who) → k < n → IsReadyAt rows k w → ⊥
NextRow n rows last (Some i) = IsNextAt n rows last i

-- a task's place in the order of jobs and numbers, where these fit their types
abbrev pub place_of : Who → ℕ
place_of who = who.job * 2 ^ 32 + who.task

pub record FitsTypes (who : Who) : Type 0 where
  pub job : who.job < 2 ^ 8
  pub task : who.task < 2 ^ 32

-- how far a task stands behind another in the circle: this one itself stands farthest
pub record IsDistance (last who : Who) (far : ℕ) : Type 0 where
  pub last_fits : FitsTypes last
  pub fits : FitsTypes who
  pub is : far ≡ (place_of who + (2 ^ 64 - (place_of last + 1))) % 2 ^ 64

-- the row of the task that is named, if one is
abbrev pub RowOf : List TaskRow → Option ℕ → Option Who → Type 0
RowOf rows None named = named ≡ None
RowOf rows (Some i) named = (who : Who) × IsReadyAt rows i who × (named ≡ Some who)

-- whether the last task's turn goes on: a switch is left, or it hasn't made all operators of its turn
abbrev pub turn_lasts : Session → Bool
turn_lasts s = list_any (λ w. nat_lt s.made w.count) s.switches || nat_lt s.turn s.quantum

-- the row of the last task, where it goes on
abbrev pub GoesOnAt : List TaskRow → Option ℕ → Session → Type 0
GoesOnAt rows None s = goes_on s ≡ false
GoesOnAt rows (Some i) s = IsReadyAt rows i s.last × (goes_on s ≡ true)

-- whom a switch of this count names, if there is one
abbrev pub SwitchesTo : ℕ → List Switch → Option Who → Type 0
SwitchesTo made switches None = (w : Switch) → Has switches w → w.count ≡ made → ⊥
SwitchesTo made switches (Some who) = Has switches (record { count = made; to = who })

-- the choice, with the chosen task's row
abbrev pub Chooses : List TaskRow → Option Chosen → Option Choice → Type 0
Chooses rows None choice = choice ≡ None
Chooses rows (Some c) choice = IsReadyAt rows c.row (choice_of c).who × (choice ≡ Some (choice_of c))
