-- What the calls of AWAIT, STATUS, WAIT and CAUSE answer and leave.
use Rattle.std.specs.Prelude.{◌≡◌, ℕ, List, [], length, Option, Some, None, Result, Ok, Err}
use Rattle.b67_word.specs.declared.couples.Place.{Place}
use Rattle.b67_word.specs.declared.faults.Fault.{Fault}
use Rattle.b67_model.specs.Common.{Word, Condition, Task, Job, SessionJob, Goes, Waits, Call, Session}
use Rattle.b67_stack.specs.Represents.{Storage}
use Rattle.b67_layout.specs.Common.{Placement, shown, here, with_job}
use Rattle.b67_task.specs.declared.tables.TaskState.{TaskState}
use Rattle.b67_task.specs.declared.tables.Machine.{Machine}
use Rattle.b67_task.specs.Tables.{MachineRepresents, state_of}

-- the call was made, by this row: the machine represents what it makes, with as many tasks. How much of the next text is
-- printed stays
pub record GoesOn (row : Call) (x : Storage) (told : Option (List (List ℕ))) (plan : Placement) (s : Session) (m : SessionJob) (t : Task) (next : Place) (arguments : List Word) (old new : Machine) : Type 0 where
  pub job : Job
  pub is : row (here m t next) arguments ≡ Ok (Goes job [] None)
  pub same : length job.tasks ≡ length m.progress.job.tasks
  pub stands : MachineRepresents x told new plan (with_job s m job)
  pub printed : new.tasks.printed ≡ old.tasks.printed

-- the call makes its task wait, and this is what its row in the tables is to show then
pub record MustWait (row : Call) (plan : Placement) (m : SessionJob) (t : Task) (next : Place) (arguments : List Word) (state : TaskState) : Type 0 where
  pub condition : Condition
  pub is : row (here m t next) arguments ≡ Ok (Waits condition)
  pub shows : state_of state ≡ shown plan m.constants.number m.progress.job t condition

-- a call that may make its task wait: then, and after a fault, nothing has changed
abbrev pub WaitMeets : Call → Storage → Option (List (List ℕ)) → Placement → Session → SessionJob → Task → Place → List Word → Result (Option TaskState) Fault → Machine → Machine → Type 0
WaitMeets row x told plan s m t next arguments (Ok None) old new = GoesOn row x told plan s m t next arguments old new
WaitMeets row x told plan s m t next arguments (Ok (Some state)) old new = MustWait row plan m t next arguments state × (new ≡ old)
WaitMeets row x told plan s m t next arguments (Err fault) old new = (row (here m t next) arguments ≡ Err fault) × (new ≡ old)

-- one that doesn't
abbrev pub DoneMeets : Call → Storage → Option (List (List ℕ)) → Placement → Session → SessionJob → Task → Place → List Word → Result (Unit {0}) Fault → Machine → Machine → Type 0
DoneMeets row x told plan s m t next arguments (Ok done) old new = GoesOn row x told plan s m t next arguments old new
DoneMeets row x told plan s m t next arguments (Err fault) old new = (row (here m t next) arguments ≡ Err fault) × (new ≡ old)
