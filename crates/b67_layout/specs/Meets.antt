-- What an operator of the running task answers and leaves, against what its row makes.
use Rattle.std.specs.Prelude.{◌≡◌, ℕ, ◌+◌, ◌<◌, ◌≤◌, ◌⊎◌, ◌==◌, not, List, [], length, map, filter, Option, Some, None, Ok, Err, slice_get}
use Rattle.std.specs.List.{list_any}
use Rattle.b67_word.specs.declared.couples.Place.{Place}
use Rattle.b67_ctl.specs.declared.registers.Regs.{Regs}
use Rattle.b67_lemmas.specs.Lists.{Has}
use Rattle.b67_model.specs.Common.{Answer, Frame, Array, Task, Job, SessionJob, OperatorContext, head_words, array, Done, Goes, Leaves, Session}
pub use Rattle.b67_model.specs.Common.{with_job}
use Rattle.b67_layout.specs.Orders.{IsInOrderButCounts}
use Rattle.b67_stack.specs.declared.Cpu.{Cpu}
use Rattle.b67_stack.specs.declared.What.{What}
use Rattle.b67_stack.specs.declared.What.TheVariants as what
use Rattle.b67_stack.specs.declared.Step.{Step}
use Rattle.b67_stack.specs.declared.Step.TheVariants as step
use Rattle.b67_stack.specs.MachineView.{PagedObject}
use Rattle.b67_stack.specs.Represents.{Storage}
use Rattle.b67_layout.specs.Placement.{Placement}
use Rattle.b67_layout.specs.Layout.{array_object}
use Rattle.b67_layout.specs.Session.{IsRunning, frame_address, RepresentsSession, RepresentsSessionBut}

-- where a task makes its operator, behind which it stands at the place `next`
abbrev pub here : SessionJob → Task → Place → OperatorContext
here m t next = record { constants = m.constants; job = m.progress.job; task = record t { place = next }; at = t.place }

-- the arrays that a job has no more, and their objects
abbrev pub gone : Job → Job → List Array
gone old new = filter (λ (a : Array). not (list_any (λ (b : Array). b.identity == a.identity) new.arrays)) old.arrays

abbrev pub objects_gone : Placement → SessionJob → Job → List PagedObject
objects_gone plan m job = map (array_object plan m.constants.number) (gone m.progress.job job)

-- the area of an array of a job
abbrev pub area_held : Storage → Placement → ℕ → ℕ → Option ℕ
area_held x plan j a = (x.held (plan.home j a)).area

-- an array that was touched is in an area
abbrev pub TouchedIsPresent : Storage → Placement → ℕ → Option ℕ → Type 0
TouchedIsPresent x plan j None = Unit {0}
TouchedIsPresent x plan j (Some a) = (at : ℕ) × (area_held x plan j a ≡ Some at)

-- a core address in the running stack, above the base word
abbrev pub IsInStack : Regs → ℕ → Type 0
IsInStack r i = (r.bosr < i) × (i ≤ r.losr)

-- that of a cell of a live frame of the job. The cells stand after the frame's mark, and its return where it is entered
pub record IsLiveCell (plan : Placement) (m : SessionJob) (i : ℕ) : Type 0 where
  pub task : Task
  pub there : Has m.progress.job.tasks task
  pub frame : Frame
  pub among : Has task.frames frame
  pub index : ℕ
  pub inside : index < length frame.cells
  pub at : i ≡ frame_address plan m task frame.identity + head_words frame.standing + index

-- that of an element of the array that was touched
abbrev pub IsTouched : Storage → Placement → SessionJob → Option ℕ → ℕ → Type 0
IsTouched x plan m None i = ⊥
IsTouched x plan m (Some a) i =
    (at : ℕ) × (area_held x plan m.constants.number a ≡ Some at) × (at ≤ i) × (i < at + length (array m.progress.job a).numbers)

-- the words that an operator may change
abbrev pub MayChange : Storage → Placement → SessionJob → Regs → Option ℕ → ℕ → Type 0
MayChange x plan m r touched i = IsInStack r i ⊎ (IsLiveCell plan m i ⊎ IsTouched x plan m touched i)

-- the operator was made: what it touches is present, the machine represents what its row makes, and only words that it
-- may change have changed. Where a frame was left, its arrays are still to be released
pub record IsMade (x : Storage) (plan : Placement) (s : Session) (m : SessionJob) (old new : Cpu) (answer : Answer Done) : Type 0 where
  pub job : Job
  pub touched : Option ℕ
  pub is : answer ≡ Ok (Goes job [] touched)
  pub present : TouchedIsPresent x plan m.constants.number touched
  pub stands : RepresentsSessionBut (objects_gone plan m job) x new plan (with_job s m job)
  pub changed : (i : ℕ) → (slice_get new.core i ≡ slice_get old.core i) ⊎ MayChange x plan m old.regs touched i

-- the row touches an array that is absent
pub record FindsAbsent (x : Storage) (plan : Placement) (m : SessionJob) (found : What) (answer : Answer Done) : Type 0 where
  pub job : Job
  pub touched : ℕ
  pub is : answer ≡ Ok (Goes job [] (Some touched))
  pub absent : area_held x plan m.constants.number touched ≡ None
  pub named : found ≡ what.Array (plan.home m.constants.number touched)

-- what an operator answered and left is what its row makes; after all answers but Done nothing has changed
abbrev pub Meets : Storage → Placement → Session → SessionJob → Step → Cpu → Cpu → Answer Done → Type 0
Meets x plan s m step.Done old new answer = IsMade x plan s m old new answer
Meets x plan s m (step.Absent found) old new answer = FindsAbsent x plan m found answer × (new ≡ old)
Meets x plan s m (step.Call n) old new answer = ⊥
Meets x plan s m (step.Fault fault) old new answer = (answer ≡ Err fault) × (new ≡ old)
Meets x plan s m step.Ended old new answer = (answer ≡ Ok Leaves) × (new ≡ old)

-- the machine represents some session in order but for places, and a task of it runs
pub record RunsSome (cpu : Cpu) : Type 0 where
  pub storage : Storage
  pub plan : Placement
  pub session : Session
  pub member : SessionJob
  pub task : Task
  pub ordered : IsInOrderButCounts session
  pub stands : RepresentsSession storage cpu plan session
  pub running : IsRunning plan session.jobs member task

-- for each session in order that the machine represents, with its running task
abbrev pub ForEach : Cpu → (Storage → Placement → Session → SessionJob → Task → Type 0) → Type 0
ForEach cpu P =
    (x : Storage) (plan : Placement) (s : Session) (m : SessionJob) (t : Task) → IsInOrderButCounts s → RepresentsSession x cpu plan s
    → IsRunning plan s.jobs m t → P x plan s m t
