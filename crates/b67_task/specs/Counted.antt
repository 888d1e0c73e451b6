-- What one operator more of a task changes in a session's counts.
use Rattle.std.specs.Prelude.{◌≡◌, ℕ, ◌+◌, ◌-◌, ◌^◌, ◌<◌, ◌≤◌, List, length, Some, slice_get}
use Rattle.b67_model.specs.Keyed.{change_keyed}
use Rattle.b67_model.specs.Common.{SessionJob, number_of, Switch, Session, Choice}
use Rattle.b67_task.specs.declared.tables.JobRow.{JobRow}
use Rattle.b67_task.specs.declared.tables.Tasks.{Tasks}
use Rattle.b67_task.specs.declared.counting.Chosen.{Chosen}

abbrev pub choice_of : Chosen → Choice
choice_of c = record { who = record { job = c.job; task = c.number }; turn = c.turn }

-- so many operators more of a job
abbrev pub counted_more : ℕ → SessionJob → SessionJob
counted_more n m = record m { progress = record m.progress { made = m.progress.made + n } }

abbrev pub row_more : ℕ → JobRow → JobRow
row_more n r = record r { made = r.made + n }

abbrev pub counted_member : SessionJob → SessionJob
counted_member = counted_more 1

abbrev pub counted_row : JobRow → JobRow
counted_row = row_more 1

-- the session with one operator more of the chosen task, which is then the last one
abbrev pub counted : Session → Choice → Session
counted s c = record s {
  jobs = change_keyed number_of c.who.job counted_member s.jobs;
  made = s.made + 1;
  last = c.who;
  turn = c.turn + 1;
}

-- and with so many operators more of the last task, in the same turn
abbrev pub counted_by : ℕ → Session → Session
counted_by n s = record s {
  jobs = change_keyed number_of s.last.job (counted_more n) s.jobs;
  made = s.made + n;
  turn = s.turn + n;
}

-- one operator more fits the counts
pub record CountsHaveRoom (tasks : Tasks) (c : Chosen) : Type 0 where
  pub job : JobRow
  pub from_one : 1 ≤ c.job
  pub at : slice_get tasks.jobs (c.job - 1) ≡ Some job
  pub of_job : job.made + 1 < 2 ^ 64
  pub made : tasks.made + 1 < 2 ^ 64
  pub turn : c.turn + 1 < 2 ^ 32
  pub next : tasks.next_switch ≤ length tasks.switches

-- and so many more of the last task do, in the same turn
pub record TurnHasRoom (tasks : Tasks) (n : ℕ) : Type 0 where
  pub job : JobRow
  pub from_one : 1 ≤ tasks.last_job
  pub at : slice_get tasks.jobs (tasks.last_job - 1) ≡ Some job
  pub of_job : job.made + n < 2 ^ 64
  pub made : tasks.made + n < 2 ^ 64
  pub turn : tasks.turn + n < 2 ^ 32

-- the switches before this one are for counts below a number
abbrev pub Past : ℕ → ℕ → List Switch → Type 0
Past next made switches = (i : ℕ) (w : Switch) → i < next → slice_get switches i ≡ Some w → w.count < made

-- and this one is not for a lower count
abbrev pub IsStillDue : ℕ → ℕ → List Switch → Type 0
IsStillDue next made switches = (w : Switch) → slice_get switches next ≡ Some w → made ≤ w.count
