-- The order of a session but for what its jobs count: what core and the tables need of it. A job that stands at its limit has
-- it, and so has one in which no task is ready.
use Rattle.std.specs.Prelude.{◌≡◌, ℕ, ◌^◌, ◌<◌, ◌≤◌, length}
use Rattle.std.specs.List.{AllByRecursion}
use Rattle.b67_model.specs.Common.{JobConstants, JobProgress, SessionJob, Session, live_tasks, Starts, IsSegment, SettingInOrder, TasksInOrder, NumberedFrom}
use Rattle.b67_model.specs.declared.limits.TheConstants.{MOST_JOBS, MOST_STACKS}

-- a job's constants, tasks and arrays are in order, whatever its counts of operators are. An operand can number its tasks
pub record JobInOrderButCounts (P : Starts) (constants : JobConstants) (c : JobProgress) : Type 0 where
  pub unchanging : SettingInOrder constants
  pub tasks : TasksInOrder P constants c.job
  pub few_born : c.job.next_task < 2 ^ 48

-- the session, by what a place must be in each job
pub record SessionInOrderButCounts (P : JobConstants → Starts) (s : Session) : Type 0 where
  pub few : length s.jobs ≤ MOST_JOBS
  pub numbered : NumberedFrom 1 s.jobs
  pub one_size : (stack : ℕ) × AllByRecursion (λ (m : SessionJob). m.constants.stack_size ≡ stack) s.jobs
  pub jobs : AllByRecursion (λ (m : SessionJob). JobInOrderButCounts (P m.constants) m.constants m.progress) s.jobs
  pub peak_low : live_tasks s.jobs ≤ s.peak
  pub peak_high : s.peak ≤ MOST_STACKS

-- all but the items on places and on counts
abbrev pub IsInOrderButCounts : Session → Type 0
IsInOrderButCounts s = SessionInOrderButCounts IsSegment s
