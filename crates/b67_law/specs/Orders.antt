-- The order of a session between the two parts of a step: the job that made the last operator may stand at its limit.
use Rattle.std.specs.Prelude.{◌≡◌, ◌≢◌, ℕ, ◌+◌, ◌≤◌, [], length, sum_by, IsTrue}
use Rattle.std.specs.List.{AllByRecursion}
use Rattle.b67_lemmas.specs.Lists.{Has}
use Rattle.b67_model.specs.Common.{Task, JobConstants, JobProgress, SessionJob, Settled, is_ready, Session, live_tasks, IsSegment, SettingInOrder, TasksInOrder, CountsInOrder, BelowLimit, NumberedFrom, SwitchesRise}
use Rattle.b67_model.specs.declared.limits.TheConstants.{MOST_JOBS, MOST_TASKS, MOST_STACKS}

-- a job in order but for places, which is below its limit unless it made the last operator
pub record JobInOrderButLimit (last : ℕ) (m : SessionJob) : Type 0 where
  pub unchanging : SettingInOrder m.constants
  pub tasks : TasksInOrder (IsSegment m.constants) m.constants m.progress.job
  pub counts : CountsInOrder m.constants m.progress
  pub below_limit : m.constants.number ≢ last → BelowLimit m.constants m.progress

-- the session
pub record IsInOrderButLimit (s : Session) : Type 0 where
  pub few : length s.jobs ≤ MOST_JOBS
  pub numbered : NumberedFrom 1 s.jobs
  pub one_size : (stack : ℕ) × AllByRecursion (λ (m : SessionJob). m.constants.stack_size ≡ stack) s.jobs
  pub jobs : AllByRecursion (JobInOrderButLimit s.last.job) s.jobs
  pub switches : SwitchesRise s.switches
  pub peak_low : live_tasks s.jobs ≤ s.peak
  pub peak_high : s.peak ≤ MOST_STACKS
  pub counted : s.made ≡ sum_by (λ (m : SessionJob). m.progress.made) s.jobs
  pub turn : s.turn ≤ s.made

-- what an operator made of a job, with the endings but LIMIT's, is in order. So many tasks lived before the endings
pub record SettlesInOrder (constants : JobConstants) (c : JobProgress) (alive : ℕ) (made : Settled) : Type 0 where
  pub tasks : TasksInOrder (IsSegment constants) constants made.job
  pub next : made.job.next_task ≤ c.job.next_task + 1
  pub few : alive ≤ MOST_TASKS
  pub fewer : length made.job.tasks ≤ alive
  pub ready : made.job.tasks ≢ [] → (t : Task) × Has made.job.tasks t × IsTrue (is_ready t)
