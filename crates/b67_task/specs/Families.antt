-- The tasks that end with one, and the session without them.
use Rattle.std.specs.Prelude.{◌≡◌, ℕ, List, Option}
use Rattle.b67_word.specs.declared.faults.Ending.{Ending}
use Rattle.b67_model.specs.Common.{Session, Task, SessionJob}
use Rattle.b67_stack.specs.Represents.{Storage}
use Rattle.b67_layout.specs.Placement.{Placement}
use Rattle.b67_layout.specs.Orders.{IsInOrderButCounts}
use Rattle.b67_task.specs.declared.tables.Machine.{Machine}
use Rattle.b67_task.specs.Tables.{MachineRepresents}
use Rattle.b67_task.specs.RowOf.{IsRowOf}
use Rattle.b67_task.specs.Family.{endings_of}
use Rattle.b67_task.specs.Deaths.{LeavesInPlace}

-- the machine represents the session, in some storage and placement
pub record StandsForSession (told : Option (List (List ℕ))) (k : Machine) (s : Session) : Type 0 where
  pub storage : Storage
  pub plan : Placement
  pub stands : MachineRepresents storage told k plan s

-- and what is left of the session before is held as in this storage
pub record StandsInPlace (x : Storage) (told : Option (List (List ℕ))) (k : Machine) (plan : Placement) (s after : Session) : Type 0 where
  pub whole : StandsForSession told k after
  pub left : LeavesInPlace x whole.storage plan whole.plan s after

-- the machine represents a session in order but for counts, and these are the endings if the task of a row ends so by itself
pub record IsFamilyOf (x : Storage) (told : Option (List (List ℕ))) (k : Machine) (plan : Placement) (s : Session) (m : SessionJob) (t : Task) (row job : ℕ) (ending : Ending) (endings : List (ℕ × Ending)) : Type 0 where
  pub ordered : IsInOrderButCounts s
  pub stands : MachineRepresents x told k plan s
  pub at : IsRowOf plan s k.tasks.rows.items row m t
  pub number : m.constants.number ≡ job
  pub listed : endings ≡ endings_of m.progress.job t.number ending

-- it does for some session
pub record EndsFamily (k : Machine) (row job : ℕ) (endings : List (ℕ × Ending)) : Type 0 where
  pub storage : Storage
  pub told : Option (List (List ℕ))
  pub plan : Placement
  pub session : Session
  pub member : SessionJob
  pub task : Task
  pub ending : Ending
  pub family : IsFamilyOf storage told k plan session member task row job ending endings
