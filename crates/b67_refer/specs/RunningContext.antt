-- The session that core and registers represent, with its running task, whatever the display shows.
use Rattle.std.specs.Prelude.{◌≡◌, ℕ, ◌+◌, ◌*◌, ◌<◌, ◌≤◌, ◌⊎◌, List, Some}
use Rattle.b67_word.specs.Tagged.{Tagged}
use Rattle.b67_ctl.specs.declared.map.TheConstants.{DICTIONARY_STACKS, MCP_STACK}
use Rattle.b67_ctl.specs.declared.registers.Regs.{Regs}
use Rattle.b67_model.specs.Keyed.{keyed}
use Rattle.b67_model.specs.Common.{Task, Job, SessionJob, Session, IsSegment, SettingInOrder, TasksInOrder}
use Rattle.b67_stack.specs.MachineView.{PagedObject}
use Rattle.b67_stack.specs.Represents.{Storage}
use Rattle.b67_layout.specs.Common.{Placement, IsRunning, SessionHoldsBut, ShowsDisplay}
use Rattle.b67_model.specs.declared.limits.TheConstants.{MOST_JOBS}

-- what references rest on in a job's order
pub record MemberInOrder (m : SessionJob) : Type 0 where
  pub from_one : 1 ≤ m.constants.number
  pub few : m.constants.number ≤ MOST_JOBS
  pub constants : SettingInOrder m.constants
  pub tasks : TasksInOrder (IsSegment m.constants) m.constants m.progress.job

pub record RunningContext (core : List Tagged) (r : Regs) : Type 0 where
  pub left : List PagedObject
  pub storage : Storage
  pub marks : List ℕ
  pub plan : Placement
  pub session : Session
  pub member : SessionJob
  pub task : Task
  pub ordered : MemberInOrder member
  pub holds : SessionHoldsBut left storage core r marks plan session
  pub running : IsRunning plan session.jobs member task

-- the same, seen from any live task of the running task's job
pub record LiveContext (core : List Tagged) (r : Regs) : Type 0 where
  pub left : List PagedObject
  pub storage : Storage
  pub marks : List ℕ
  pub plan : Placement
  pub session : Session
  pub member : SessionJob
  pub task : Task
  pub ordered : MemberInOrder member
  pub holds : SessionHoldsBut left storage core r marks plan session
  pub live : keyed (λ (u : Task). u.number) task.number member.progress.job.tasks ≡ Some task
  pub runner : Task
  pub running : IsRunning plan session.jobs member runner

-- the running task's slot is one of the slots, which follow each other
pub record RunsInSlot (r : Regs) : Type 0 where
  pub first : r.bosr ≡ r.stacks + r.slot * r.stack_size
  pub last : r.losr + 1 ≡ r.bosr + r.stack_size
  pub some : 0 < r.stack_size

-- from the running task itself
abbrev pub live_of : {core : List Tagged} {r : Regs} → RunningContext core r → LiveContext core r
live_of a = record {
  left = a.left;
  storage = a.storage;
  marks = a.marks;
  plan = a.plan;
  session = a.session;
  member = a.member;
  task = a.task;
  ordered = a.ordered;
  holds = a.holds;
  live = a.running.task;
  runner = a.task;
  running = a.running;
}

-- the running task's own context
abbrev pub running_of : {core : List Tagged} {r : Regs} → LiveContext core r → RunningContext core r
running_of a = record {
  left = a.left;
  storage = a.storage;
  marks = a.marks;
  plan = a.plan;
  session = a.session;
  member = a.member;
  task = a.runner;
  ordered = a.ordered;
  holds = a.holds;
  running = a.running;
}

-- seen from the live task, or from the running one: in the running environment couples are looked up
abbrev pub FromEither : {core : List Tagged} {r : Regs} → (LiveContext core r → Type 0) → LiveContext core r → Type 0
FromEither P a = P a ⊎ P (live_of (running_of a))

-- the number of the running task's job, and its state
abbrev pub job_number_in : {core : List Tagged} {r : Regs} → RunningContext core r → ℕ
job_number_in a = a.member.constants.number

abbrev pub job_in : {core : List Tagged} {r : Regs} → RunningContext core r → Job
job_in a = a.member.progress.job

-- the display is that of the running task
abbrev pub IsShown : {core : List Tagged} {r : Regs} → RunningContext core r → List ℕ → Type 0
IsShown a display = ShowsDisplay display a.plan a.member a.task

-- a stack that a word of a task of this job may name: a slot, the job's dictionary or the MCP
abbrev pub IsStackIn : Placement → SessionJob → ℕ → Type 0
IsStackIn plan m k = (k < plan.peak) ⊎ ((k ≡ DICTIONARY_STACKS + m.constants.number) ⊎ (k ≡ MCP_STACK))

abbrev pub IsStackOf : {core : List Tagged} {r : Regs} → LiveContext core r → ℕ → Type 0
IsStackOf a k = IsStackIn a.plan a.member k
