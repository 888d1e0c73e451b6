-- What the next operator of the running task answers and leaves, with what it wants brought into core.
use Rattle.std.specs.Prelude.{◌≡◌, ◌≢◌, ℕ, ◌+◌, ◌<◌, ◌≤◌, ◌⊎◌, List, length, Option, Some, None, Result, Ok, Err}
use Rattle.b67_word.specs.declared.faults.Ending.{Ending}
use Rattle.b67_word.specs.declared.faults.Ending.TheVariants.{Faulted}
use Rattle.b67_word.specs.declared.faults.Fault.TheVariants.{InvalidOperator}
use Rattle.b67_lemmas.specs.Lists.{Has}
use Rattle.b67_backing.specs.Held.{Becomes}
use Rattle.b67_layout.specs.Machine.{HasHole, DeviceAfterCalls}
use Rattle.b67_task.specs.Needing.{need_with}
use Rattle.b67_model.specs.declared.intrinsics.TheConstants.{PROCESS}
use Rattle.b67_model.specs.Common.{Array, Ready, Task, Job, SessionJob, code_of, sectors, touched_of, need, step, Session}
pub use Rattle.b67_model.specs.Common.{TakesSectors}
use Rattle.b67_layout.specs.Common.{IsInOrderButCounts, Placement, IsRunning, area_held, with_job, objects_gone}
use Rattle.b67_exec_cells.specs.Called.{called_in}
use Rattle.b67_task.specs.Released.{HasHome}
use Rattle.b67_stack.specs.Represents.{Storage}
use Rattle.b67_law.specs.Weaker.{AllOtherNumbers}
use Rattle.b67_presence.specs.Bringing.{StandsOver}
use Rattle.b67_exec_cells.specs.Running.{code_area}
use Rattle.b67_task.specs.declared.tables.Machine.{Machine}
use Rattle.b67_task.specs.declared.tables.Tasks.{Tasks}
use Rattle.b67_task.specs.Tables.{MachineRepresents}
use Rattle.b67_mcp.specs.Called.{IsCalled, HoldsOther, IsCut, IsShortAt, Lengthens, StartsTask, CallsDevice, WaitsSo}
use Rattle.b67_mcp.specs.Running.{CallCauses, Keeps}
use Rattle.b67_mcp.specs.declared.ends.Stop.{Stop}
use Rattle.b67_mcp.specs.declared.ends.Stop.TheVariants as stops
use Rattle.b67_session.specs.declared.tries.Tried.{Tried}
use Rattle.b67_session.specs.declared.tries.Tried.TheVariants as tries
use Rattle.b67_session.specs.Tries.{EndsSo}

-- the machine represents some session in order over a device that tells this, and a ready task of it runs
pub record RunsOver (k : Machine) (told : Option (List (List ℕ))) : Type 0 where
  pub storage : Storage
  pub plan : Placement
  pub session : Session
  pub member : SessionJob
  pub task : Task
  pub ordered : IsInOrderButCounts session
  pub stands : StandsOver storage told k plan session
  pub running : IsRunning plan session.jobs member task
  pub ready : task.condition ≡ Ready

-- for each session in order that the machine represents over a device that tells this, of which a ready task runs
abbrev pub ForEachOver : Machine → Option (List (List ℕ)) → (Storage → Placement → Session → SessionJob → Task → Type 0) → Type 0
ForEachOver k told P =
    (x : Storage) (plan : Placement) (s : Session) (m : SessionJob) (t : Task) → IsInOrderButCounts s → StandsOver x told k plan s → IsRunning plan s.jobs m t → t.condition ≡ Ready
    → P x plan s m t

-- the machine represents the session, in some storage
abbrev pub StillStands : Option (List (List ℕ)) → Machine → Placement → Session → Type 0
StillStands told k plan s = (x : Storage) × MachineRepresents x told k plan s

-- the running segment and the array that the step touches are in core
pub record WantsNothing (x : Storage) (plan : Placement) (m : SessionJob) (t : Task) : Type 0 where
  pub code : code_area x plan m t ≢ None
  pub array : (a : ℕ) → touched_of m.constants m.progress.job t (step m.constants m.progress.job t) ≡ Some a → area_held x plan m.constants.number a ≢ None

-- the running segment is absent, or the array that the step touches is, or the step makes an array longer or starts a task
abbrev pub IsLacking : Storage → Placement → SessionJob → Task → Type 0
IsLacking x plan m t =
    (code_area x plan m t ≡ None)
    ⊎ (((a : ℕ) × (touched_of m.constants m.progress.job t (step m.constants m.progress.job t) ≡ Some a) × (area_held x plan m.constants.number a ≡ None))
    ⊎ CallsDevice m t)

-- the step wants one thing, its segment or the array that it touches, and a hole has room for it
pub data HoleFits (x : Storage) (plan : Placement) (m : SessionJob) (t : Task) : Type 0 where
  segment_fits : code_area x plan m t ≡ None
      → ((a : ℕ) → touched_of m.constants m.progress.job t (step m.constants m.progress.job t) ≡ Some a → area_held x plan m.constants.number a ≢ None)
      → HasHole (length (code_of m.constants t.segment) + 2) x.spans → HoleFits x plan m t
  array_fits : (a : Array) → code_area x plan m t ≢ None → Has m.progress.job.arrays a → area_held x plan m.constants.number a.identity ≡ None
      → touched_of m.constants m.progress.job t (step m.constants m.progress.job t) ≡ Some a.identity
      → HasHole (length a.numbers + 2) x.spans → HoleFits x plan m t

-- nothing is wanted; or one thing is, a hole has room for it, and the device tells what its sectors hold
abbrev pub IsAtHand : Storage → Placement → SessionJob → Task → Type 0
IsAtHand x plan m t = WantsNothing x plan m t ⊎ ((x.device ≢ None) × HoleFits x plan m t)

-- the running segment is absent, or, if it is present, the array that the step touches is; and no hole has room for it
pub data LacksRoom (x : Storage) (plan : Placement) (m : SessionJob) (t : Task) : Type 0 where
  for_segment : code_area x plan m t ≡ None → (HasHole (length (code_of m.constants t.segment) + 2) x.spans → ⊥) → LacksRoom x plan m t
  for_array : (a : Array) → code_area x plan m t ≢ None → Has m.progress.job.arrays a → area_held x plan m.constants.number a.identity ≡ None
      → touched_of m.constants m.progress.job t (step m.constants m.progress.job t) ≡ Some a.identity
      → (HasHole (length a.numbers + 2) x.spans → ⊥) → LacksRoom x plan m t

-- core has the words of the MCP, the dictionaries, the stacks and the running segment
abbrev pub CodeFits : ℕ → Session → SessionJob → Task → Type 0
CodeFits core s m t = need_with s m t 0 0 ≤ core

-- so many sectors are told where a step is stopped that wants nothing: the session's, if the step starts a task, or those that it
-- takes once its array is longer
pub data TellsAfter (s : Session) (m : SessionJob) (t : Task) (sum : ℕ) : Type 0 where
  starts_task : StartsTask m t → sum ≡ sectors s.jobs → TellsAfter s m t sum
  makes_longer : (l : Lengthens m t) → sum ≡ sectors (with_job s m l.job).jobs → TellsAfter s m t sum

-- So many sectors are told where a step is stopped: the session's, if something that it wants is absent and no hole has room for
-- it, or if the step starts a task; or those that the session takes once the array is longer, and then nothing is absent that no
-- hole has room for
pub data TellsSectors (exact : Type 0) (x : Storage) (plan : Placement) (s : Session) (m : SessionJob) (t : Task) (sum : ℕ) : Type 0 where
  for_want : (exact → LacksRoom x plan m t) → sum ≡ sectors s.jobs → TellsSectors exact x plan s m t sum
  for_task : StartsTask m t → sum ≡ sectors s.jobs → TellsSectors exact x plan s m t sum
  for_length : (l : Lengthens m t) → (LacksRoom x plan m t → ⊥) → sum ≡ sectors (with_job s m l.job).jobs → TellsSectors exact x plan s m t sum

-- the machine represents the session, whose next step lacks its segment or its array, makes it longer or starts a task. Core has
-- room for its segment, and for the whole step if the segment is present. `exact` is as below
pub record StandsLacking (exact : Type 0) (told : Option (List (List ℕ))) (core : ℕ) (k : Machine) (plan : Placement) (s : Session) (m : SessionJob) (t : Task) : Type 0 where
  pub storage : Storage
  pub stands : MachineRepresents storage told k plan s
  pub lacks : exact → IsLacking storage plan m t
  pub room : exact → (need core s m t ≤ core) ⊎ (code_area storage plan m t ≡ None)
  pub code : exact → CodeFits core s m t

-- and it is short of sectors: so many are wanted, and fewer are free; and the session's sum is told, or that after the step
pub record StandsShort (exact : Type 0) (told : Option (List (List ℕ))) (core : ℕ) (k : Machine) (plan : Placement) (s : Session) (m : SessionJob) (t : Task) (sum : ℕ) : Type 0 where
  pub lacking : StandsLacking exact told core k plan s m t
  pub tells : TellsSectors exact lacking.storage plan s m t sum
  pub wants : ℕ
  pub free : ℕ
  pub short : IsShortAt lacking.storage plan s.jobs m t wants free

-- the step ends its task so: as its row says; or by INVALID OPERATOR, if the device tells nothing and gave back code that wants
-- a third thing
abbrev pub EndsWithin : Type 0 → SessionJob → Task → Ending → Type 0
EndsWithin exact m t ending = EndsSo m t ending ⊎ ((exact → ⊥) × (ending ≡ Faulted InvalidOperator))

-- by what was answered, over a core of so many words and a device of so many sectors; so many first bytes of what is printed
-- next were printed before. Nothing is answered to be absent. `exact` is whether the device tells what its sectors hold: one
-- that doesn't may give back other code, on which the task ends
abbrev pub AttemptMeets : {K : Type 0} → (K → Option (List ℕ)) → Option (List (List ℕ)) → Type 0 → ℕ → ℕ → ℕ → Placement → Session → SessionJob → Task → Result Tried Stop → Machine → K → K → Type 0
AttemptMeets taken told exact core count before plan s m t (Ok tries.Made) new paper paper' = IsCalled taken paper paper' told s m t before new
AttemptMeets taken told exact core count before plan s m t (Ok (tries.Absent found)) new paper paper' = ⊥
AttemptMeets taken told exact core count before plan s m t (Ok (tries.Ends ending)) new paper paper' =
    EndsWithin exact m t ending × StillStands told new plan s × (paper' ≡ paper)
AttemptMeets taken told exact core count before plan s m t (Ok (tries.Waits state)) new paper paper' = WaitsSo plan m t state × StillStands told new plan s × (paper' ≡ paper)
AttemptMeets taken told exact core count before plan s m t (Err (stops.NoCore words size)) new paper paper' =
    (words ≡ need core s m t) × (size ≡ core) × (core < words) × StillStands told new plan s × (paper' ≡ paper)
AttemptMeets taken told exact core count before plan s m t (Err (stops.BackingFull sum size)) new paper paper' =
    (size ≡ count) × (count < sum) × StandsShort exact told core new plan s m t sum × (paper' ≡ paper)
AttemptMeets taken told exact core count before plan s m t (Err stops.BackingFault) new paper paper' = StandsLacking exact told core new plan s m t × (paper' ≡ paper)
AttemptMeets taken told exact core count before plan s m t (Err stops.PrintFault) new paper paper' = IsCut taken paper paper' m t before new.tasks.printed × StillStands told new plan s

-- the session, or over a device that tells nothing one with other numbers, and what its step answered
pub record Attempts {K : Type 0} (taken : K → Option (List ℕ)) (x : Storage) (told : Option (List (List ℕ))) (core count before : ℕ) (plan : Placement) (s : Session) (t : Task) (answered : Result Tried Stop) (new : Machine) (paper paper' : K) : Type 0 where
  pub jobs : List SessionJob
  pub others : AllOtherNumbers s.jobs jobs
  pub same : x.device ≢ None → jobs ≡ s.jobs
  pub member : SessionJob
  pub running : IsRunning plan jobs member t
  pub meets : AttemptMeets taken told (x.device ≢ None) core count before plan (record s { jobs = jobs }) member t answered new paper paper'

-- A step that was made, ends its task, or couldn't be printed needs no more words than core has. Where its segment was
-- present before, in this storage, a device that is full or fails stops it only if it doesn't either
abbrev pub AttemptFits : ℕ → Storage → Placement → Session → SessionJob → Task → Result Tried Stop → Type 0
AttemptFits core x plan s m t (Ok attempted) = need core s m t ≤ core
AttemptFits core x plan s m t (Err stops.PrintFault) = need core s m t ≤ core
AttemptFits core x plan s m t (Err (stops.BackingFull sum size)) = code_area x plan m t ≢ None → need core s m t ≤ core
AttemptFits core x plan s m t (Err stops.BackingFault) = code_area x plan m t ≢ None → need core s m t ≤ core
AttemptFits core x plan s m t (Err stop) = Unit {0}

-- no stop for too few sectors was answered
abbrev pub IsNotFull : {A : Type 0} → Result A Stop → Type 0
IsNotFull answered = (sum size : ℕ) → answered ≢ Err (stops.BackingFull sum size)

-- what is wanted was brought into a hole: no sector is written, and too few free sectors stop nothing
pub record UsesHole {A D : Type 0} (holds : D → Option (List (List ℕ))) (answered : Result A Stop) (device device' : D) : Type 0 where
  pub written : Becomes holds device device' (λ all. all)
  pub not_full : IsNotFull answered

-- a step was made, and every area that was there is where it was, but those of arrays of a record that it leaves, and that of one
-- that DEALLOCATE empties or RESIZE gives another length. Of PROCESS that isn't said
abbrev pub KeepsAreas : Storage → Storage → Placement → Placement → SessionJob → Task → Job → Type 0
KeepsAreas x y plan after m t job =
    called_in m t ≢ Some PROCESS → (home : ℕ) → (x.held home).area ≢ None → (HasHome (objects_gone plan m job) home → ⊥) → (HoldsOther plan after m t job home → ⊥)
    → (y.held home).area ≡ (x.held home).area

-- and nothing else is in an area
abbrev pub AddsNoArea : Storage → Storage → Placement → Placement → SessionJob → Task → Job → Type 0
AddsNoArea x y plan after m t job =
    called_in m t ≢ Some PROCESS → (home : ℕ) → (x.held home).area ≡ None → (HasHome (objects_gone plan m job) home → ⊥) → (HoldsOther plan after m t job home → ⊥)
    → (y.held home).area ≡ None

abbrev pub CallKeepsAreas : {K : Type 0} → (K → Option (List ℕ)) → Storage → Option (List (List ℕ)) → ℕ → Placement → Session → SessionJob → Task → Machine → K → K → Type 0
CallKeepsAreas taken x told before plan s m t new paper paper' =
    (c : IsCalled taken paper paper' told s m t before new) × KeepsAreas x c.storage plan c.plan m t c.job × (WantsNothing x plan m t → AddsNoArea x c.storage plan c.plan m t c.job)

-- the device wasn't called, and doesn't stop the step for too few sectors
pub record IsCalm {A D : Type 0} (answered : Result A Stop) (device device' : D) : Type 0 where
  pub same : device' ≡ device
  pub not_full : IsNotFull answered

-- a step that ends its task or makes it wait does so by its row, and nothing is absent
abbrev pub EndsByRow : Placement → SessionJob → Task → Result Tried Stop → Type 0
EndsByRow plan m t (Ok (tries.Absent found)) = ⊥
EndsByRow plan m t (Ok (tries.Ends ending)) = EndsSo m t ending
EndsByRow plan m t (Ok (tries.Waits state)) = WaitsSo plan m t state
EndsByRow plan m t answered = Unit {0}

-- a step that is to end its task or to make it wait leaves everything where it is
abbrev pub StandsAsBefore : Storage → Option (List (List ℕ)) → Placement → Session → Result Tried Stop → Machine → Type 0
StandsAsBefore x told plan s (Ok (tries.Ends ending)) new = MachineRepresents x told new plan s
StandsAsBefore x told plan s (Ok (tries.Waits state)) new = MachineRepresents x told new plan s
StandsAsBefore x told plan s answered new = Unit {0}

-- What an attempt answers and leaves. Over a device that tells what its sectors hold, core has room as said, and what is wanted
-- goes into a hole if one has room for it. Where nothing is wanted, no array becomes longer and no task starts, the device isn't
-- called; and if it is full, the sum is the one after the step. In both cases a step that is made leaves areas where they are;
-- where nothing is wanted none is new, and a task ends or waits only by its row, with all areas where they are
pub record AttemptRow {D K : Type 0} (holds : D → Option (List (List ℕ))) (taken : K → Option (List ℕ)) (x : Storage) (told : Option (List (List ℕ))) (core count before : ℕ) (plan : Placement) (s : Session) (m : SessionJob) (t : Task) (answered : Result Tried Stop) (new : Machine) (device device' : D) (paper paper' : K) : Type 0 where
  pub meets : Attempts taken x told core count before plan s t answered new paper paper'
  pub fits : x.device ≢ None → AttemptFits core x plan s m t answered
  pub quiet : WantsNothing x plan m t → (CallsDevice m t → ⊥) → device' ≡ device
  pub hole : x.device ≢ None → HoleFits x plan m t → (CallsDevice m t → ⊥) → UsesHole holds answered device device'
  pub areas : IsAtHand x plan m t → answered ≡ Ok tries.Made → CallKeepsAreas taken x told before plan s m t new paper paper'
  pub outcome : WantsNothing x plan m t → EndsByRow plan m t answered
  pub still : WantsNothing x plan m t → StandsAsBefore x told plan s answered new
  pub sum : WantsNothing x plan m t → (sum size : ℕ) → answered ≡ Err (stops.BackingFull sum size) → TellsAfter s m t sum

-- the same of an attempt once the running segment is present: if nothing more is wanted, the device isn't called but by a step
-- that may call it, and a step that is made leaves areas where they are
pub record WithCodeRow {D K : Type 0} (taken : K → Option (List ℕ)) (x : Storage) (told : Option (List (List ℕ))) (core count before : ℕ) (plan : Placement) (s : Session) (m : SessionJob) (t : Task) (answered : Result Tried Stop) (new : Machine) (device device' : D) (paper paper' : K) : Type 0 where
  pub meets : code_area x plan m t ≢ None → Attempts taken x told core count before plan s t answered new paper paper'
  pub fits : code_area x plan m t ≢ None → x.device ≢ None → AttemptFits core x plan s m t answered
  pub calm : WantsNothing x plan m t → (CallsDevice m t → ⊥) → IsCalm answered device device'
  pub areas : WantsNothing x plan m t → answered ≡ Ok tries.Made → CallKeepsAreas taken x told before plan s m t new paper paper'

-- and of the last try, once the array is present too. Over a device that tells nothing the step may want another
pub record LastRow {D K : Type 0} (taken : K → Option (List ℕ)) (x : Storage) (told : Option (List (List ℕ))) (core count before : ℕ) (plan : Placement) (s : Session) (m : SessionJob) (t : Task) (answered : Result Tried Stop) (new : Machine) (device device' : D) (paper paper' : K) : Type 0 where
  pub meets : (x.device ≢ None → WantsNothing x plan m t) → Attempts taken x told core count before plan s t answered new paper paper'
  pub fits : WantsNothing x plan m t → AttemptFits core x plan s m t answered
  pub calm : (CallsDevice m t → ⊥) → IsCalm answered device device'

-- the tables are as they were but where the operator was made; after a printer's failure it is counted how much is printed
abbrev pub TablesStay : Result Tried Stop → Tasks → Tasks → Type 0
TablesStay (Ok tries.Made) old new = Unit {0}
TablesStay (Ok (tries.Absent found)) old new = new ≡ old
TablesStay (Ok (tries.Ends ending)) old new = new ≡ old
TablesStay (Ok (tries.Waits state)) old new = new ≡ old
TablesStay (Err stops.PrintFault) old new = new ≡ record old { printed = new.printed }
TablesStay (Err stop) old new = new ≡ old

-- What a try leaves, however it ends: each failure has its cause, the sizes and what the deck gave are as they were, and the device is
-- as calls leave it
pub record TryLeaves {A D K : Type 0} (holds : D → Option (List (List ℕ))) (size calls faults : D → ℕ) (failed : K → ℕ) (answered : Result A Stop) (old new : Machine) (device device' : D) (paper paper' : K) : Type 0 where
  pub causes : CallCauses faults failed device device' paper paper' answered
  pub kept : Keeps old new
  pub served : DeviceAfterCalls holds size calls faults device device'
