-- Machines of which a task runs, and what a call keeps of a machine.
use Rattle.std.specs.Prelude.{◌≡◌, ℕ, List, length, Option}
use Rattle.b67_model.specs.Common.{Task, SessionJob, Session}
use Rattle.b67_layout.specs.Common.{IsInOrderButCounts, Placement, IsRunning}
use Rattle.b67_stack.specs.Represents.{Storage}
use Rattle.b67_task.specs.declared.tables.Machine.{Machine}
use Rattle.b67_task.specs.Tables.{MachineRepresents, given_of}

-- the machine represents some session in order, of which a task runs
pub record RunsTask (k : Machine) : Type 0 where
  pub storage : Storage
  pub told : Option (List (List ℕ))
  pub plan : Placement
  pub session : Session
  pub member : SessionJob
  pub task : Task
  pub ordered : IsInOrderButCounts session
  pub stands : MachineRepresents storage told k plan session
  pub running : IsRunning plan session.jobs member task

-- for each session in order that the machine represents, with its running task
abbrev pub ForEachRun : Machine → (Storage → Option (List (List ℕ)) → Placement → Session → SessionJob → Task → Type 0) → Type 0
ForEachRun k P =
    (x : Storage) (told : Option (List (List ℕ))) (plan : Placement) (s : Session) (m : SessionJob) (t : Task) → IsInOrderButCounts s → MachineRepresents x told k plan s
    → IsRunning plan s.jobs m t → P x told plan s m t

-- the machine has as many words of core, as many sectors, and what the deck gave
pub record Keeps (old new : Machine) : Type 0 where
  pub core : length new.cpu.core ≡ length old.cpu.core
  pub sectors : length new.sectors.links ≡ length old.sectors.links
  pub given : given_of new.tasks ≡ given_of old.tasks
