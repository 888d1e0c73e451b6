-- What a call of PROCESS answers and leaves, over the whole machine.
use Rattle.std.specs.Prelude.{◌≡◌, ℕ, ◌+◌, ◌-◌, ◌^◌, ◌<◌, ◌≤◌, List, [], length, Option, None, Result, Ok, Err}
use Rattle.b67_lemmas.specs.Lists.{Has}
use Rattle.b67_word.specs.declared.couples.Place.{Place}
use Rattle.b67_word.specs.declared.faults.Fault.{Fault}
use Rattle.b67_backing.specs.declared.SpaceFault.{SpaceFault}
use Rattle.b67_backing.specs.declared.SpaceFault.TheVariants.{NoCore, BackingFull, BackingFault}
use Rattle.b67_model.specs.Common.{Word, Task, Job, SessionJob, Goes, process, Session}
use Rattle.b67_io.specs.Causes.{Rose}
use Rattle.b67_stack.specs.Represents.{Storage}
use Rattle.b67_layout.specs.Machine.{Says, DeviceAfterCalls, content_after}
use Rattle.b67_layout.specs.Common.{Placement, here, session_moved}
use Rattle.b67_task.specs.Needing.{need_with}
use Rattle.b67_task.specs.declared.tables.JobRow.{JobRow}
use Rattle.b67_task.specs.declared.tables.Machine.{Machine}
use Rattle.b67_task.specs.Tables.{MachineRepresents}
use Rattle.b67_task.specs.Shortage.{IsShortOf}

-- each job's next task can be numbered, and then the one after it
abbrev pub CanNumber : List JobRow → Type 0
CanNumber rows = (r : JobRow) → Has rows r → r.next_task + 1 < 2 ^ 32

-- the row starts a task
pub record StartsOne (m : SessionJob) (t : Task) (next : Place) (arguments : List Word) : Type 0 where
  pub job : Job
  pub is : process (here m t next) arguments ≡ Ok (Goes job [] None)
  pub more : length job.tasks ≡ length m.progress.job.tasks + 1

-- the call was made: the machine represents the job that its row makes, whose tasks count for the peak
pub record IsProcessed (told : Option (List (List ℕ))) (s : Session) (m : SessionJob) (t : Task) (next : Place) (arguments : List Word) (new : Machine) : Type 0 where
  pub job : Job
  pub is : process (here m t next) arguments ≡ Ok (Goes job [] None)
  pub storage : Storage
  pub plan : Placement
  pub stands : MachineRepresents storage told new plan (session_moved s m job (length job.tasks - length m.progress.job.tasks))

-- the row starts a task, which isn't started: the machine represents the same session, of which areas may have been evicted
pub record StartIsStopped (told : Option (List (List ℕ))) (plan : Placement) (s : Session) (m : SessionJob) (t : Task) (next : Place) (arguments : List Word) (old new : Machine) : Type 0 where
  pub starts : StartsOne m t next arguments
  pub storage : Storage
  pub stands : MachineRepresents storage told new plan s
  pub tables : new.tasks ≡ old.tasks

-- and the machine is short of sectors
pub record IsStoppedShort (told : Option (List (List ℕ))) (plan : Placement) (s : Session) (m : SessionJob) (t : Task) (next : Place) (arguments : List Word) (wants free : ℕ) (old new : Machine) : Type 0 where
  pub stopped : StartIsStopped told plan s m t next arguments old new
  pub short : IsShortOf stopped.storage plan s.jobs wants free

-- the row starts a task, for which core is too small
pub record LacksWords (words : ℕ) (s : Session) (m : SessionJob) (t : Task) (next : Place) (arguments : List Word) (need core : ℕ) : Type 0 where
  pub starts : StartsOne m t next arguments
  pub need_is : need ≡ need_with s m t 1 0
  pub core_is : core ≡ words
  pub exceeds : core < need

-- by what was answered, over a device that tells this afterwards
abbrev pub ProcessMeets : Option (List (List ℕ)) → Placement → Session → SessionJob → Task → Place → List Word → Result (Result (Unit {0}) Fault) SpaceFault → Machine → Machine → Type 0
ProcessMeets told plan s m t next arguments (Ok (Ok done)) old new = IsProcessed told s m t next arguments new
ProcessMeets told plan s m t next arguments (Ok (Err fault)) old new = (process (here m t next) arguments ≡ Err fault) × (new ≡ old)
ProcessMeets told plan s m t next arguments (Err (NoCore need core)) old new = LacksWords (length old.cpu.core) s m t next arguments need core × (new ≡ old)
ProcessMeets told plan s m t next arguments (Err (BackingFull wants free)) old new = IsStoppedShort told plan s m t next arguments wants free old new
ProcessMeets told plan s m t next arguments (Err BackingFault) old new = StartIsStopped told plan s m t next arguments old new

-- after every other answer the device is as it was
abbrev pub ProcessWrites : SessionJob → Task → Place → List Word → Result (Result (Unit {0}) Fault) SpaceFault → Type 0
ProcessWrites m t next arguments (Ok (Ok done)) = StartsOne m t next arguments
ProcessWrites m t next arguments (Ok (Err fault)) = ⊥
ProcessWrites m t next arguments (Err (NoCore need core)) = ⊥
ProcessWrites m t next arguments (Err (BackingFull wants free)) = StartsOne m t next arguments
ProcessWrites m t next arguments (Err BackingFault) = StartsOne m t next arguments

-- a call that starts a task, was made or was stopped by the device, needs no more words than core has
abbrev pub ProcessFits : ℕ → Session → SessionJob → Task → Place → List Word → Result (Result (Unit {0}) Fault) SpaceFault → Type 0
ProcessFits core s m t next arguments (Ok (Ok done)) = StartsOne m t next arguments → need_with s m t 1 0 ≤ core
ProcessFits core s m t next arguments (Ok (Err fault)) = Unit {0}
ProcessFits core s m t next arguments (Err (NoCore need size)) = Unit {0}
ProcessFits core s m t next arguments (Err (BackingFull wants free)) = need_with s m t 1 0 ≤ core
ProcessFits core s m t next arguments (Err BackingFault) = need_with s m t 1 0 ≤ core

-- the call is made by its row, where the device tells what the storage says of it; and unless the row starts a task, the device
-- is as it was
pub record ProcessRow {D : Type 0} (holds : D → Option (List (List ℕ))) (told : Option (List (List ℕ))) (plan : Placement) (s : Session) (m : SessionJob) (t : Task) (next : Place) (arguments : List Word)
    (result : Result (Result (Unit {0}) Fault) SpaceFault) (old new : Machine) (before after : D) : Type 0 where
  pub meets : Says told (holds before) → ProcessMeets (content_after told (holds after)) plan s m t next arguments result old new
  pub quiet : (ProcessWrites m t next arguments result → ⊥) → after ≡ before

-- what the call leaves of the device, whose count of failures has risen where it failed
pub record ProcessServed {D A : Type 0} (holds : D → Option (List (List ℕ))) (many counted failed : D → ℕ) (before after : D) (result : Result A SpaceFault) : Type 0 where
  pub calls : DeviceAfterCalls holds many counted failed before after
  pub cause : result ≡ Err BackingFault → Rose failed before after
