-- RESIZE: an array that gets another length; and what the call answers and leaves.
use Rattle.std.specs.Prelude.{◌≡◌, ◌≢◌, ℕ, ◌+◌, ◌<◌, ◌⊎◌, true, List, [], length, Option, None, Result, Ok, Err}
use Rattle.b67_lemmas.specs.Lists.{Has}
use Rattle.b67_backing.specs.Held.{sectors_for}
use Rattle.b67_backing.specs.declared.refusals.SpaceFault.{SpaceFault}
use Rattle.b67_backing.specs.declared.refusals.SpaceFault.TheVariants as space
use Rattle.b67_model.specs.Common.{Array, Task, Job, SessionJob, Goes, with_array, resized, sectors, step, Session}
use Rattle.b67_stack.specs.Represents.{Storage}
use Rattle.b67_layout.specs.Machine.{HasHole}
use Rattle.b67_layout.specs.Common.{IsInOrderButCounts, Placement, with_job, area_held}
use Rattle.b67_task.specs.declared.tables.Machine.{Machine}
use Rattle.b67_task.specs.Tables.{MachineRepresents}
use Rattle.b67_task.specs.Runs.{RunsTask, ForEachRun}
use Rattle.b67_task.specs.Shortage.{IsShortOf}
use Rattle.b67_mcp.specs.Called.{StaysInPlace, TouchesAbsent, IsFull, IsRefused}
use Rattle.b67_mcp.specs.declared.ends.CallEnd.{CallEnd}
use Rattle.b67_mcp.specs.declared.ends.CallEnd.TheVariants as ends
use Rattle.b67_mcp.specs.declared.ends.Stop.{Stop}
use Rattle.b67_mcp.specs.declared.ends.Stop.TheVariants as stops

-- the machine represents a session in order, of which a task runs; a writable array of its job is present, with so many words,
-- and its original has this address
pub record HasArray (k : Machine) (original words : ℕ) : Type 0 where
  pub runs : RunsTask k
  pub array : Array
  pub among : Has runs.member.progress.job.arrays array
  pub home : original ≡ runs.plan.home runs.member.constants.number array.identity
  pub writable : array.writable ≡ true
  pub long : length array.numbers ≡ words
  pub present : area_held runs.storage runs.plan runs.member.constants.number array.identity ≢ None

-- for each such session and array
abbrev pub ForArrays : Machine → ℕ → ℕ → (Storage → Option (List (List ℕ)) → Placement → Session → SessionJob → Array → Type 0) → Type 0
ForArrays k original words P =
    ForEachRun k (λ x told plan s m t. (a : Array) → Has m.progress.job.arrays a → original ≡ plan.home m.constants.number a.identity → a.writable ≡ true → length a.numbers ≡ words
    → area_held x plan m.constants.number a.identity ≢ None → P x told plan s m a)

-- so many sectors are those of each session in order that the machine represents, where an array of so many words gets so many
abbrev pub SumsTo : Machine → ℕ → ℕ → ℕ → Type 0
SumsTo k before after sum =
    (x : Storage) (told : Option (List (List ℕ))) (plan : Placement) (s : Session) → IsInOrderButCounts s → MachineRepresents x told k plan s
    → sum + sectors_for before ≡ sectors s.jobs + sectors_for after

-- the stop for a want of space there: where sectors are missing, with that sum and the number of the device's
abbrev pub StopsAt : Machine → ℕ → ℕ → SpaceFault → Stop → Type 0
StopsAt k before after (space.BackingFull wants free) stop = (sum : ℕ) × (count : ℕ) × (stop ≡ stops.BackingFull sum count) × SumsTo k before after sum × (count + 1 ≡ length k.sectors.links)
StopsAt k before after space.BackingFault stop = stop ≡ stops.BackingFault
StopsAt k before after (space.NoCore words size) stop = ⊥

-- the session in which an array has another length
abbrev pub session_resized : Session → SessionJob → Array → ℕ → Session
session_resized s m a words = with_job s m (with_array m.progress.job a.identity (resized words))

-- the machine represents this session, and everything but the array is held as it was
pub record StaysButArray (x : Storage) (told : Option (List (List ℕ))) (plan : Placement) (s : Session) (m : SessionJob) (a : Array) (old new : Machine) : Type 0 where
  pub storage : Storage
  pub stands : MachineRepresents storage told new plan s
  pub others : (home : ℕ) → home ≢ plan.home m.constants.number a.identity → storage.held home ≡ x.held home
  pub tables : new.tasks ≡ old.tasks

-- and it is the session in which the array has so many words
abbrev pub HasLength : Storage → Option (List (List ℕ)) → Placement → Session → SessionJob → Array → ℕ → Machine → Machine → Type 0
HasLength x told plan s m a words old new = StaysButArray x told plan (session_resized s m a words) m a old new

-- the chain of the array lacks so many sectors for so many words, and fewer are free
pub record ChainLacks (y : Storage) (plan : Placement) (m : SessionJob) (a : Array) (words wants free : ℕ) : Type 0 where
  pub chain : (y.held (plan.home m.constants.number a.identity)).chain ≢ 0
  pub wants_is : sectors_for (length a.numbers) + wants ≡ sectors_for words
  pub free_is : free ≡ length y.shelf.free
  pub fewer : free < wants

-- and it is short of sectors: the session with the array of so many words takes more than the device has. If the array isn't in
-- core any more, a hole has room for it
pub record IsUnset (x : Storage) (told : Option (List (List ℕ))) (count : ℕ) (plan : Placement) (s : Session) (m : SessionJob) (a : Array) (words sum size : ℕ) (old new : Machine) : Type 0 where
  pub left : StaysButArray x told plan s m a old new
  pub wants : ℕ
  pub free : ℕ
  pub short : IsShortOf left.storage plan s.jobs wants free ⊎ ChainLacks left.storage plan m a words wants free
  pub room : area_held left.storage plan m.constants.number a.identity ≡ None → HasHole (length a.numbers + 2) left.storage.spans
  pub sum_is : sum ≡ sectors (session_resized s m a words).jobs
  pub size_is : size ≡ count
  pub exceeds : count < sum

-- by what was answered, over a device of so many sectors that tells this afterwards
abbrev pub LengthSet : Option (List (List ℕ)) → ℕ → Storage → Placement → Session → SessionJob → Array → ℕ → Result (Unit {0}) Stop → Machine → Machine → Type 0
LengthSet told count x plan s m a words (Ok done) old new = HasLength x told plan s m a words old new
LengthSet told count x plan s m a words (Err (stops.BackingFull sum size)) old new = IsUnset x told count plan s m a words sum size old new
LengthSet told count x plan s m a words (Err stops.BackingFault) old new = StaysButArray x told plan s m a old new
LengthSet told count x plan s m a words (Err stop) old new = ⊥

-- the call was made, and the machine represents what its row makes; how much of the next text is printed stays
pub record IsResized (told : Option (List (List ℕ))) (s : Session) (m : SessionJob) (t : Task) (old new : Machine) : Type 0 where
  pub job : Job
  pub touched : Option ℕ
  pub is : step m.constants m.progress.job t ≡ Ok (Goes job [] touched)
  pub storage : Storage
  pub plan : Placement
  pub stands : MachineRepresents storage told new plan (with_job s m job)
  pub printed : new.tasks.printed ≡ old.tasks.printed

-- by what was answered, over a device of so many sectors that tells this afterwards
abbrev pub ResizeAnswers : Option (List (List ℕ)) → ℕ → Storage → Placement → Session → SessionJob → Task → Result CallEnd Stop → Machine → Machine → Type 0
ResizeAnswers told count x plan s m t (Ok ends.Done) old new = (r : IsResized told s m t old new) × StaysInPlace x r.storage plan r.plan m t r.job
ResizeAnswers told count x plan s m t (Ok (ends.Absent found)) old new = TouchesAbsent x plan m t found × (new ≡ old)
ResizeAnswers told count x plan s m t (Ok (ends.Fault fault)) old new = (step m.constants m.progress.job t ≡ Err fault) × (new ≡ old)
ResizeAnswers told count x plan s m t (Ok (ends.Waits state)) old new = ⊥
ResizeAnswers told count x plan s m t (Err (stops.BackingFull sum size)) old new = IsFull x told count plan s m t sum size old new
ResizeAnswers told count x plan s m t (Err stops.BackingFault) old new = IsRefused x told plan s m t old new
ResizeAnswers told count x plan s m t (Err stop) old new = ⊥
