-- A machine of a parent and a child of which one runs and the other waits, and that there is one.
use Rattle.std.specs.Prelude.{◌≡◌, ◌≢◌, ℕ, ◌<◌, [], ◌∷◌, Some, slice_get}
use Rattle.b67_lemmas.specs.Lists.{Has}
use Rattle.b67_model.specs.Common.{Task, SessionJob, Session}
use Rattle.b67_stack.specs.declared.Cpu.{Cpu}
use Rattle.b67_stack.specs.Represents.{Storage}
use Rattle.b67_layout.specs.Placement.{Placement, slot_of}
use Rattle.b67_layout.specs.Session.{IsRunning, RepresentsSession}
use Rattle.b67_layout.specs.Orders.{IsInOrderButCounts}

-- a live task of a job runs, which is the child of another one; this waits in a slot of its own, and the mark that it may not
-- leave is set
pub record RunsChild (cpu : Cpu) (plan : Placement) (s : Session) : Type 0 where
  pub member : SessionJob
  pub parent : Task
  pub child : Task
  pub in_session : Has s.jobs member
  pub lives : Has member.progress.job.tasks parent
  pub running : IsRunning plan s.jobs member child
  pub born : child.parents ≡ parent.number ∷ []
  pub waits : slot_of plan member.constants.number parent.number ≢ plan.running
  pub mark : ℕ
  pub marked : slice_get cpu.critical (slot_of plan member.constants.number parent.number) ≡ Some mark
  pub set : 0 < mark

-- some machine represents such a session in order
abbrev pub ChildrenCanRun : Type 0
ChildrenCanRun =
    (x : Storage) × (cpu : Cpu) × (plan : Placement) × (s : Session) × IsInOrderButCounts s × RepresentsSession x cpu plan s × RunsChild cpu plan s
