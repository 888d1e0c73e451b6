-- A task that joins a job, and the call from which it is started.
use Rattle.std.specs.Prelude.{◌≡◌, ◌≢◌, ℕ, ◌+◌, ◌<◌, ◌≤◌, List, [], ◌∷◌, ◌++◌, length, Some, None, false}
use Rattle.b67_lemmas.specs.Lists.{Has}
use Rattle.b67_model.specs.Words as Words
use Rattle.b67_model.specs.Common.{Word, Operand, Name, Ref, Row, Element, Original, Proc, Intrinsic, Frame, Task, Job, SessionJob, number_of, is_original, Session}
use Rattle.b67_model.specs.State as State
use Rattle.b67_model.specs.Keyed.{keyed}
use Rattle.b67_layout.specs.Common.{IsInOrderButCounts, Slotted, Placement, outer_spots, RowsFit, IsRunning, RepresentsSession, with_job}
use Rattle.b67_stack.specs.declared.Cpu.{Cpu}
use Rattle.b67_stack.specs.Common.{StackPlace, Entered, HeadFits, Storage}

-- a new task of a job: its number is new, and so is its slot's row; no live task has it above
pub record Joins (plan : Placement) (jobs : List SessionJob) (m : SessionJob) (job' : Job) (child : Task) (k peak : ℕ) : Type 0 where
  pub member : keyed number_of m.constants.number jobs ≡ Some m
  pub tasks : job'.tasks ≡ child ∷ m.progress.job.tasks
  pub arrays : job'.arrays ≡ m.progress.job.arrays
  pub newest : (t : Task) → Has m.progress.job.tasks t → t.number ≢ child.number
  pub above : (t : Task) → Has m.progress.job.tasks t → (u : ℕ) → Has t.parents u → u ≢ child.number
  pub rows : RowsFit plan jobs
  pub row : (r : Slotted) → Has plan.rows r → r.job ≡ m.constants.number → r.task ≢ child.number
  pub free : (r : Slotted) → Has plan.rows r → r.slot ≢ k
  pub away : k ≢ plan.running
  pub inside : k < peak
  pub wider : plan.peak ≤ peak

-- the frames that a word names: none, or one
abbrev pub Sees : (ℕ → Type 0) → Word → Type 0
Sees Seen (Ref frame offset) = Seen frame
Sees Seen (Operand bits) = Unit {0}
Sees Seen (Name couple) = Unit {0}
Sees Seen (Row a) = Unit {0}
Sees Seen (Element a index) = Unit {0}
Sees Seen (Original a) = Unit {0}
Sees Seen (Proc segment level place) = Unit {0}
Sees Seen (Intrinsic number) = Unit {0}
Sees Seen (Words.Segment number) = Unit {0}

-- a task is started at a call: from the frame under the call's mark, with cells of the call
pub record Calls (plan : Placement) (m : SessionJob) (t : Task) (job' : Job) (child : Task) : Type 0 where
  pub call : Frame
  pub under : Frame
  pub below : List Frame
  pub frames : t.frames ≡ call ∷ under ∷ below
  pub line : child.parents ≡ t.number ∷ t.parents
  pub critical : child.critical ≡ under.identity
  pub only : Frame
  pub child_frames : child.frames ≡ only ∷ []
  pub identity : only.identity ≡ m.progress.job.next_frame
  pub level : ℕ
  pub environment : ℕ
  pub stands : only.standing ≡ State.Entered level environment None
  pub deeper : List Word
  pub split : call.cells ≡ only.cells ++ deeper
  pub plain : (w : Word) → Has only.cells w → is_original w ≡ false
  pub names : (w : Word) → Has only.cells w → Sees (λ (id : ℕ). (id ≢ call.identity) × (id ≢ only.identity)) w
  pub room : 3 + length only.cells ≤ plan.size
  pub spot : StackPlace
  pub spot_is : outer_spots plan m.constants.number m.progress.job child.critical child.parents environment ≡ spot
  pub head_fits : HeadFits (Entered level spot None) []

-- the running task of the machine's session starts a task so, in this slot, with an environment at this spot
pub record MayBuild (x : Storage) (cpu : Cpu) (plan : Placement) (s : Session) (m : SessionJob) (t : Task) (job' : Job) (child : Task) (slot job env_stack env_disp level count : ℕ) : Type 0 where
  pub ordered : IsInOrderButCounts s
  pub stands : RepresentsSession x cpu plan s
  pub running : IsRunning plan s.jobs m t
  pub joins : Joins plan s.jobs m job' child slot plan.peak
  pub calls : Calls plan m t job' child
  pub spot_is : calls.spot ≡ record { stack = env_stack; disp = env_disp }
  pub level_is : calls.level ≡ level
  pub count_is : length calls.only.cells ≡ count
  pub job_is : m.constants.number ≡ job

-- that of some session does
pub record BuildsSome (cpu : Cpu) (slot job env_stack env_disp level count : ℕ) : Type 0 where
  pub storage : Storage
  pub plan : Placement
  pub session : Session
  pub member : SessionJob
  pub task : Task
  pub after : Job
  pub child : Task
  pub may : MayBuild storage cpu plan session member task after child slot job env_stack env_disp level count

-- the session with the task
abbrev pub session_joined : Placement → Session → SessionJob → Job → Session
session_joined plan s m job' = record (with_job s m job') { peak = plan.peak }
