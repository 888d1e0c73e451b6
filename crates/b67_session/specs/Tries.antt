-- What one try at the next operator of the running task answers and leaves.
use Rattle.std.specs.Prelude.{◌≡◌, ◌≢◌, ℕ, ◌≤◌, ◌⊎◌, List, length, Option, Some, Result, Ok, Err}
use Rattle.b67_word.specs.declared.faults.Ending.{Ending}
use Rattle.b67_word.specs.declared.faults.Ending.TheVariants.{Ended, Faulted}
use Rattle.b67_lemmas.specs.Lists.{Has}
use Rattle.b67_model.specs.declared.intrinsics.TheConstants.{PROCESS}
use Rattle.b67_model.specs.Common.{Array, Ready, Task, Job, SessionJob, Leaves, step, touched_of, need, Session}
use Rattle.b67_stack.specs.declared.What.{What}
use Rattle.b67_stack.specs.declared.What.TheVariants as what
use Rattle.b67_stack.specs.Represents.{Storage}
use Rattle.b67_layout.specs.Machine.{Says, content_after}
use Rattle.b67_layout.specs.Common.{Placement, objects_gone}
use Rattle.b67_exec_cells.specs.Called.{called_in}
use Rattle.b67_task.specs.Released.{HasHome}
use Rattle.b67_presence.specs.Bringing.{IsWanted}
use Rattle.b67_task.specs.declared.tables.Machine.{Machine}
use Rattle.b67_task.specs.Runs.{RunsTask}
use Rattle.b67_mcp.specs.Called.{IsCalled, HoldsOther, IsCut, IsFull, IsRefused, IsUnstarted, IsUnstartedFull, LacksCore, MayWrite, OnlyPrinted, WaitsSo}
use Rattle.b67_mcp.specs.declared.ends.Stop.{Stop}
use Rattle.b67_mcp.specs.declared.ends.Stop.TheVariants as stops
use Rattle.b67_session.specs.declared.tries.Tried.{Tried}
use Rattle.b67_session.specs.declared.tries.Tried.TheVariants as tries

-- the machine represents some session in order, of which a ready task runs
pub record ReadyRuns (k : Machine) : Type 0 where
  pub runs : RunsTask k
  pub ready : runs.task.condition ≡ Ready

-- the running segment is wanted, or the array that the step touches, by the address of its original
abbrev pub IsWantedByStep : Placement → SessionJob → Task → What → ℕ → Type 0
IsWantedByStep plan m t (what.Code displacement) words = Unit {0}
IsWantedByStep plan m t (what.Array home) words =
    (a : Array) × Has m.progress.job.arrays a × (plan.home m.constants.number a.identity ≡ home)
    × (touched_of m.constants m.progress.job t (step m.constants m.progress.job t) ≡ Some a.identity) × (words ≡ length a.numbers)

-- the step ends its task so by itself
abbrev pub EndsSo : SessionJob → Task → Ending → Type 0
EndsSo m t Ended = step m.constants m.progress.job t ≡ Ok Leaves
EndsSo m t (Faulted fault) = step m.constants m.progress.job t ≡ Err fault
EndsSo m t _ = ⊥

-- after a step that was made everything is held as it was, in the same areas and the same sectors, but the arrays of a record
-- that it leaves, and one that DEALLOCATE empties, RESIZE gives another length or ARRAYDEC makes. Of PROCESS that isn't said
abbrev pub LeavesAreas : Storage → Storage → Placement → Placement → SessionJob → Task → Job → Type 0
LeavesAreas x y plan after m t job =
    called_in m t ≢ Some PROCESS → (home : ℕ) → (HasHome (objects_gone plan m job) home → ⊥) → (HoldsOther plan after m t job home → ⊥)
    → y.held home ≡ x.held home

-- By what was answered, over a device of so many sectors that tells this afterwards. Where the step wasn't made nothing has
-- changed but, after a printer's failure, how much is printed, and, after a want of sectors or a device's failure, where the
-- array is held that was to become longer, or which areas are present
abbrev pub TryMeets : {K : Type 0} → (K → Option (List ℕ)) → Option (List (List ℕ)) → ℕ → Storage → Placement → Session → SessionJob → Task → Result Tried Stop → Machine → Machine → K → K → Type 0
TryMeets taken told count x plan s m t (Ok tries.Made) old new paper paper' =
    (c : IsCalled taken paper paper' told s m t old.tasks.printed new) × LeavesAreas x c.storage plan c.plan m t c.job
TryMeets taken told count x plan s m t (Ok (tries.Absent found)) old new paper paper' =
    (words : ℕ) × IsWanted x plan m t found words × IsWantedByStep plan m t found words × (new ≡ old) × (paper' ≡ paper)
TryMeets taken told count x plan s m t (Ok (tries.Ends ending)) old new paper paper' = EndsSo m t ending × (new ≡ old) × (paper' ≡ paper)
TryMeets taken told count x plan s m t (Ok (tries.Waits state)) old new paper paper' = WaitsSo plan m t state × (new ≡ old) × (paper' ≡ paper)
TryMeets taken told count x plan s m t (Err stops.PrintFault) old new paper paper' = IsCut taken paper paper' m t old.tasks.printed new.tasks.printed × OnlyPrinted old new
TryMeets taken told count x plan s m t (Err (stops.BackingFull sum size)) old new paper paper' =
    (IsFull x told count plan s m t sum size old new ⊎ IsUnstartedFull told count plan s m t sum size old new) × (paper' ≡ paper)
TryMeets taken told count x plan s m t (Err stops.BackingFault) old new paper paper' = (IsRefused x told plan s m t old new ⊎ IsUnstarted told plan s m t old new) × (paper' ≡ paper)
TryMeets taken told count x plan s m t (Err (stops.NoCore words size)) old new paper paper' = LacksCore (length old.cpu.core) s m t words size × (new ≡ old) × (paper' ≡ paper)

-- after every other answer the device is as it was
abbrev pub TryWrites : Storage → Placement → SessionJob → Task → Result Tried Stop → Type 0
TryWrites x plan m t (Ok tries.Made) = MayWrite x plan m t
TryWrites x plan m t (Err (stops.BackingFull sum size)) = MayWrite x plan m t
TryWrites x plan m t (Err stops.BackingFault) = MayWrite x plan m t
TryWrites x plan m t answered = ⊥

-- a step that was made, ends its task, or was stopped by the printer or the device needs no more words than core has
abbrev pub TryFits : ℕ → Session → SessionJob → Task → Result Tried Stop → Type 0
TryFits core s m t (Ok tries.Made) = need core s m t ≤ core
TryFits core s m t (Ok (tries.Absent found)) = Unit {0}
TryFits core s m t (Ok (tries.Ends ending)) = need core s m t ≤ core
TryFits core s m t (Ok (tries.Waits state)) = need core s m t ≤ core
TryFits core s m t (Err stops.PrintFault) = need core s m t ≤ core
TryFits core s m t (Err (stops.BackingFull sum size)) = need core s m t ≤ core
TryFits core s m t (Err stops.BackingFault) = need core s m t ≤ core
TryFits core s m t (Err stop) = Unit {0}

-- What a try answers and leaves, over a device of so many sectors; `holds` is what it tells of them
pub record TryRow {D K : Type 0} (holds : D → Option (List (List ℕ))) (taken : K → Option (List ℕ)) (count : ℕ) (x : Storage) (told : Option (List (List ℕ))) (plan : Placement) (s : Session) (m : SessionJob) (t : Task) (answered : Result Tried Stop) (old new : Machine) (device device' : D) (paper paper' : K) : Type 0 where
  -- the answer is its row's, where the device tells what the storage says of it
  pub row : Says told (holds device) → TryMeets taken (content_after told (holds device')) count x plan s m t answered old new paper paper'
  -- core has room for the step, unless it wants something absent, or core is too small for it
  pub fits : TryFits (length old.cpu.core) s m t answered
  -- the device is as it was, unless the step may have written to it
  pub quiet : (TryWrites x plan m t answered → ⊥) → device' ≡ device
