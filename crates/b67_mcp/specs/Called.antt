-- What the call of an intrinsic answers, prints and leaves.
use Rattle.std.specs.Prelude.{◌≡◌, ◌≢◌, ℕ, ◌+◌, ◌-◌, ◌<◌, ◌≤◌, ◌⊎◌, List, [], ◌∷◌, length, take, slice_get, Option, Some, None, Result, Ok, Err}
use Rattle.b67_lemmas.specs.Lists.{Has}
use Rattle.b67_model.specs.declared.intrinsics.TheConstants.{ARRAYDEC, PROCESS, DEALLOCATE, RESIZE}
use Rattle.b67_model.specs.Common.{Array, Row, Condition, Task, Job, SessionJob, Line, Goes, Waits, step, touched_of, need, sectors, run_text, Session}
use Rattle.b67_stack.specs.declared.What.{What}
use Rattle.b67_stack.specs.declared.What.TheVariants as what
use Rattle.b67_stack.specs.Represents.{Storage}
use Rattle.b67_layout.specs.Machine.{Says, content_after, HasHole}
use Rattle.b67_layout.specs.Common.{Placement, with_job, area_held, cells, IsInStack, shown, session_moved}
use Rattle.b67_exec_cells.specs.Running.{code_area}
use Rattle.b67_exec_cells.specs.Called.{called_in}
use Rattle.b67_law.specs.Turns.{task_lines}
use Rattle.b67_session_lines.specs.Parts.{TookRest, TookMore}
use Rattle.b67_task.specs.declared.tables.TaskState.{TaskState}
use Rattle.b67_task.specs.declared.tables.Machine.{Machine}
use Rattle.b67_task.specs.Tables.{MachineRepresents, state_of}
pub use Rattle.b67_task.specs.Tables.{AreCountable}
use Rattle.b67_task.specs.Runs.{RunsTask}
pub use Rattle.b67_task.specs.Shortage.{Lengthens, IsShortOf, IsShortAt}
use Rattle.b67_mcp.specs.declared.ends.CallEnd.{CallEnd}
use Rattle.b67_mcp.specs.declared.ends.CallEnd.TheVariants as ends
use Rattle.b67_mcp.specs.declared.ends.Stop.{Stop}
use Rattle.b67_mcp.specs.declared.ends.Stop.TheVariants as stops

-- the step of a task starts another: it is a PROCESS that doesn't answer 0
pub record StartsTask (m : SessionJob) (t : Task) : Type 0 where
  pub job : Job
  pub is : step m.constants m.progress.job t ≡ Ok (Goes job [] None)
  pub more : length job.tasks ≡ length m.progress.job.tasks + 1

-- the step may call the device though its segment and its array are present: it makes an array longer, or starts a task
abbrev pub CallsDevice : SessionJob → Task → Type 0
CallsDevice m t = Lengthens m t ⊎ StartsTask m t

-- the step makes its task wait, and this is what its row in the tables is to show then
pub record WaitsSo (plan : Placement) (m : SessionJob) (t : Task) (state : TaskState) : Type 0 where
  pub condition : Condition
  pub is : step m.constants m.progress.job t ≡ Ok (Waits condition)
  pub shows : state_of state ≡ shown plan m.constants.number m.progress.job t condition

-- the text of what a step of a task prints
abbrev pub printed_text : SessionJob → Task → List Line → List ℕ
printed_text m t printed = run_text (task_lines m t printed)

-- how many first bytes of what is printed next are printed, once a row's text was taken
abbrev pub printed_after : List Line → ℕ → ℕ
printed_after [] before = before
printed_after (line ∷ more) before = 0

-- the call was made and the rest of its text was taken, of which so many first bytes were printed before, and the machine
-- represents what its row makes. A new array has its home in the plan, and a task that is started counts for the peak
pub record IsCalled {K : Type 0} (taken : K → Option (List ℕ)) (paper paper' : K) (told : Option (List (List ℕ))) (s : Session) (m : SessionJob) (t : Task) (before : ℕ) (new : Machine) : Type 0 where
  pub job : Job
  pub printed : List Line
  pub touched : Option ℕ
  pub is : step m.constants m.progress.job t ≡ Ok (Goes job printed touched)
  pub storage : Storage
  pub plan : Placement
  pub stands : MachineRepresents storage told new plan (session_moved s m job (length job.tasks - length m.progress.job.tasks))
  pub text : TookRest taken paper paper' (printed_text m t printed) before
  pub reset : new.tasks.printed ≡ printed_after printed before

-- at this address something else is held after the call: it is the original of the array that DEALLOCATE empties, which the row copy
-- on top of the marked record names; of the one that RESIZE gives another length; or of one that ARRAYDEC makes
pub data HoldsOther (plan after : Placement) (m : SessionJob) (t : Task) (job : Job) (home : ℕ) : Type 0 where
  is_emptied : (a : Array) → called_in m t ≡ Some DEALLOCATE → Has m.progress.job.arrays a → take 1 (cells t) ≡ Row a.identity ∷ []
      → plan.home m.constants.number a.identity ≡ home → HoldsOther plan after m t job home
  is_resized : (a : Array) → called_in m t ≡ Some RESIZE → Has m.progress.job.arrays a → touched_of m.constants m.progress.job t (step m.constants m.progress.job t) ≡ Some a.identity
      → plan.home m.constants.number a.identity ≡ home → HoldsOther plan after m t job home
  is_new : called_in m t ≡ Some ARRAYDEC → after.home m.constants.number m.progress.job.next_array ≡ home → HoldsOther plan after m t job home

-- everything else is held as it was: in the same areas, and in the same sectors. Of PROCESS that isn't said
abbrev pub StaysInPlace : Storage → Storage → Placement → Placement → SessionJob → Task → Job → Type 0
StaysInPlace x y plan after m t job =
    called_in m t ≢ Some PROCESS → (home : ℕ) → (HoldsOther plan after m t job home → ⊥) → y.held home ≡ x.held home

-- the call touches an array of its job, which is absent
pub record TouchesAbsent (x : Storage) (plan : Placement) (m : SessionJob) (t : Task) (found : What) : Type 0 where
  pub array : Array
  pub among : Has m.progress.job.arrays array
  pub touched : touched_of m.constants m.progress.job t (step m.constants m.progress.job t) ≡ Some array.identity
  pub absent : area_held x plan m.constants.number array.identity ≡ None
  pub named : found ≡ what.Array (plan.home m.constants.number array.identity)

-- the call's text was taken in part: so many first bytes are printed then
pub record IsCut {K : Type 0} (taken : K → Option (List ℕ)) (paper paper' : K) (m : SessionJob) (t : Task) (before after : ℕ) : Type 0 where
  pub job : Job
  pub printed : List Line
  pub touched : Option ℕ
  pub is : step m.constants m.progress.job t ≡ Ok (Goes job printed touched)
  pub text : TookMore taken paper paper' (printed_text m t printed) before after

-- nothing has changed but how much of the next text is printed
abbrev pub OnlyPrinted : Machine → Machine → Type 0
OnlyPrinted old new = new ≡ record old { tasks = record old.tasks { printed = new.tasks.printed } }

-- an array of the job, which is present
pub record ArrayIsThere (x : Storage) (plan : Placement) (m : SessionJob) (n : ℕ) : Type 0 where
  pub array : Array
  pub among : Has m.progress.job.arrays array
  pub named : array.identity ≡ n
  pub there : area_held x plan m.constants.number n ≢ None

-- the array that the step touches, if any, is one of the job, and is present
abbrev pub TouchesPresent : Storage → Placement → SessionJob → Task → Type 0
TouchesPresent x plan m t = (n : ℕ) → touched_of m.constants m.progress.job t (step m.constants m.progress.job t) ≡ Some n → ArrayIsThere x plan m n

-- the call may write to the device: it makes an array longer, and the array is present, or it starts a task
abbrev pub MayWrite : Storage → Placement → SessionJob → Task → Type 0
MayWrite x plan m t = (Lengthens m t × TouchesPresent x plan m t) ⊎ StartsTask m t

-- after every other answer the device is as it was
abbrev pub CallWrites : Storage → Placement → SessionJob → Task → Result CallEnd Stop → Type 0
CallWrites x plan m t (Ok ends.Done) = MayWrite x plan m t
CallWrites x plan m t (Err (stops.BackingFull sum size)) = MayWrite x plan m t
CallWrites x plan m t (Err stops.BackingFault) = MayWrite x plan m t
CallWrites x plan m t answered = ⊥

-- The call was to make an array longer, and isn't made: the machine represents the same session. The array may be absent now,
-- and everything else is held as it was
pub record IsRefused (x : Storage) (told : Option (List (List ℕ))) (plan : Placement) (s : Session) (m : SessionJob) (t : Task) (old new : Machine) : Type 0 where
  pub longer : Lengthens m t
  pub storage : Storage
  pub stands : MachineRepresents storage told new plan s
  pub others : (home : ℕ) → home ≢ plan.home m.constants.number longer.array.identity → storage.held home ≡ x.held home
  pub tables : new.tasks ≡ old.tasks

-- so it is where the session that the call would make takes more sectors than the device has, and the machine is short of some. The
-- running segment is in core; and if the array isn't any more, a hole has room for it
pub record IsFull (x : Storage) (told : Option (List (List ℕ))) (count : ℕ) (plan : Placement) (s : Session) (m : SessionJob) (t : Task) (sum size : ℕ) (old new : Machine) : Type 0 where
  pub refused : IsRefused x told plan s m t old new
  pub wants : ℕ
  pub free : ℕ
  pub short : IsShortAt refused.storage plan s.jobs m t wants free
  pub touches : refused.longer.touched ≡ Some refused.longer.array.identity
  pub code : code_area refused.storage plan m t ≢ None
  pub room : area_held refused.storage plan m.constants.number refused.longer.array.identity ≡ None → HasHole (length refused.longer.array.numbers + 2) refused.storage.spans
  pub sum_is : sum ≡ sectors (with_job s m refused.longer.job).jobs
  pub size_is : size ≡ count
  pub exceeds : count < sum

-- The call was to start a task, and doesn't: the machine represents the same session. Areas may have been evicted
pub record IsUnstarted (told : Option (List (List ℕ))) (plan : Placement) (s : Session) (m : SessionJob) (t : Task) (old new : Machine) : Type 0 where
  pub starts : StartsTask m t
  pub storage : Storage
  pub stands : MachineRepresents storage told new plan s
  pub tables : new.tasks ≡ old.tasks

-- so it is where the session takes more sectors than the device has, and the machine is short of some
pub record IsUnstartedFull (told : Option (List (List ℕ))) (count : ℕ) (plan : Placement) (s : Session) (m : SessionJob) (t : Task) (sum size : ℕ) (old new : Machine) : Type 0 where
  pub unstarted : IsUnstarted told plan s m t old new
  pub wants : ℕ
  pub free : ℕ
  pub short : IsShortOf unstarted.storage plan s.jobs wants free
  pub sum_is : sum ≡ sectors s.jobs
  pub size_is : size ≡ count
  pub exceeds : count < sum

-- core is too small for the step, which starts a task
pub record LacksCore (core : ℕ) (s : Session) (m : SessionJob) (t : Task) (words size : ℕ) : Type 0 where
  pub starts : StartsTask m t
  pub words_is : words ≡ need core s m t
  pub size_is : size ≡ core
  pub exceeds : core < words

-- By what was answered, over a device of so many sectors that tells this afterwards. Where the call wasn't made nothing has
-- changed but, after a printer's failure, how much is printed, and, after a want of sectors or a device's failure, where the
-- array is held or which areas are present
abbrev pub CallMeets : {K : Type 0} → (K → Option (List ℕ)) → Option (List (List ℕ)) → ℕ → Storage → Placement → Session → SessionJob → Task → Result CallEnd Stop → Machine → Machine → K → K → Type 0
CallMeets taken told count x plan s m t (Ok ends.Done) old new paper paper' =
    (c : IsCalled taken paper paper' told s m t old.tasks.printed new) × StaysInPlace x c.storage plan c.plan m t c.job
CallMeets taken told count x plan s m t (Ok (ends.Absent found)) old new paper paper' = TouchesAbsent x plan m t found × (new ≡ old) × (paper' ≡ paper)
CallMeets taken told count x plan s m t (Ok (ends.Fault fault)) old new paper paper' = (step m.constants m.progress.job t ≡ Err fault) × (new ≡ old) × (paper' ≡ paper)
CallMeets taken told count x plan s m t (Ok (ends.Waits state)) old new paper paper' = WaitsSo plan m t state × (new ≡ old) × (paper' ≡ paper)
CallMeets taken told count x plan s m t (Err stops.PrintFault) old new paper paper' = IsCut taken paper paper' m t old.tasks.printed new.tasks.printed × OnlyPrinted old new
CallMeets taken told count x plan s m t (Err (stops.BackingFull sum size)) old new paper paper' =
    (IsFull x told count plan s m t sum size old new ⊎ IsUnstartedFull told count plan s m t sum size old new) × (paper' ≡ paper)
CallMeets taken told count x plan s m t (Err stops.BackingFault) old new paper paper' = (IsRefused x told plan s m t old new ⊎ IsUnstarted told plan s m t old new) × (paper' ≡ paper)
CallMeets taken told count x plan s m t (Err (stops.NoCore words size)) old new paper paper' = LacksCore (length old.cpu.core) s m t words size × (new ≡ old) × (paper' ≡ paper)

-- a step that starts a task, was made so or was stopped by the device, needs no more words than core has
abbrev pub CallFits : ℕ → Session → SessionJob → Task → Result CallEnd Stop → Type 0
CallFits core s m t (Ok ends.Done) = StartsTask m t → need core s m t ≤ core
CallFits core s m t (Err (stops.BackingFull sum size)) = StartsTask m t → need core s m t ≤ core
CallFits core s m t (Err stops.BackingFault) = StartsTask m t → need core s m t ≤ core
CallFits core s m t answered = Unit {0}

-- the machine represents some session in order, whose running task's operator calls this intrinsic
pub record CallsSome (k : Machine) (n : ℕ) : Type 0 where
  pub runs : RunsTask k
  pub code : code_area runs.storage runs.plan runs.member runs.task ≢ None
  pub called : called_in runs.member runs.task ≡ Some n

-- so it is where the call was made, where it faults, and where the printer or the device stopped it
abbrev pub CallTouches : Storage → Placement → SessionJob → Task → Result CallEnd Stop → Type 0
CallTouches x plan m t (Ok ends.Done) = TouchesPresent x plan m t
CallTouches x plan m t (Ok (ends.Absent found)) = Unit {0}
CallTouches x plan m t (Ok (ends.Fault fault)) = TouchesPresent x plan m t
CallTouches x plan m t (Ok (ends.Waits state)) = Unit {0}
CallTouches x plan m t (Err stops.PrintFault) = TouchesPresent x plan m t
CallTouches x plan m t (Err (stops.BackingFull sum size)) = TouchesPresent x plan m t
CallTouches x plan m t (Err stops.BackingFault) = TouchesPresent x plan m t
CallTouches x plan m t (Err stop) = Unit {0}

-- the core words that have changed lie in the running stack
abbrev pub ChangesStack : Machine → Machine → Type 0
ChangesStack old new = (i : ℕ) → (slice_get new.cpu.core i ≡ slice_get old.cpu.core i) ⊎ IsInStack old.cpu.regs i

-- what is said of every call that may write to the device, beside its row's meaning: what it touches is present, core has room
-- for a task that it starts, and the device is as it was unless the call may have written to it
pub record CallReaches {D : Type 0} (core : ℕ) (x : Storage) (plan : Placement) (s : Session) (m : SessionJob) (t : Task) (answered : Result CallEnd Stop) (device device' : D) : Type 0 where
  pub present : CallTouches x plan m t answered
  pub fits : CallFits core s m t answered
  pub quiet : (CallWrites x plan m t answered → ⊥) → device' ≡ device

-- What a call answers and leaves, over a device of so many sectors; `holds` is what it tells of them
pub record CallRow {D K : Type 0} (holds : D → Option (List (List ℕ))) (taken : K → Option (List ℕ)) (count : ℕ) (x : Storage) (told : Option (List (List ℕ))) (plan : Placement) (s : Session) (m : SessionJob) (t : Task) (n : ℕ) (answered : Result CallEnd Stop) (old new : Machine) (device device' : D) (paper paper' : K) : Type 0 where
  -- the answer is its row's, where the device tells what the storage says of it; and if the call was made, areas stay as said
  pub row : Says told (holds device) → CallMeets taken (content_after told (holds device')) count x plan s m t answered old new paper paper'
  -- what the call touches is present, where it was made, faults, or was stopped by the printer or the device
  pub present : CallTouches x plan m t answered
  -- core has room for a task that the call started, or was stopped at by the device
  pub fits : CallFits (length old.cpu.core) s m t answered
  -- ARRAYDEC, PRINT, PRINTROW and READ change no word outside the running stack
  pub outside : n < 12 → ChangesStack old new
  -- the device is as it was, unless the call may have written to it
  pub quiet : (CallWrites x plan m t answered → ⊥) → device' ≡ device
