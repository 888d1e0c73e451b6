-- What one operator more makes of the tables.
use Rattle.std.specs.Prelude.{◌≡◌, ◌+◌, Some}
use Rattle.b67_model.specs.Common.{JobMoment, NumberedFrom, number_of, with_moment, Session, SessionJob}
use Rattle.b67_model.specs.Keyed.{keyed}
use Rattle.b67_layout.specs.Meets.{with_job}
use Rattle.b67_layout.specs.Placement.{Placement}
use Rattle.b67_task.specs.declared.tables.Tasks.{Tasks}
use Rattle.b67_task.specs.Tables.{TasksShow, given_of}
use Rattle.b67_task.specs.declared.counting.Chosen.{Chosen}
use Rattle.b67_task.specs.Counted.{choice_of}

-- one operator of the chosen task was counted: tables that show what it made of its job show the session after the step
pub record IsCounted (c : Chosen) (old new : Tasks) : Type 0 where
  pub shows : (plan : Placement) (s : Session) (m : SessionJob) (made : JobMoment) → NumberedFrom 1 s.jobs → keyed number_of c.job s.jobs ≡ Some m → made.progress.made ≡ m.progress.made + 1
      → TasksShow plan (with_job s m made.progress.job) old → TasksShow plan (with_moment s (choice_of c) m made) new
  pub made : new.made ≡ old.made + 1
  pub rows : new.rows ≡ old.rows
  pub running : new.running ≡ old.running
  pub last_job : new.last_job ≡ c.job
  pub last_number : new.last_number ≡ c.number
  pub printed : new.printed ≡ 0
  pub given : given_of new ≡ given_of old
