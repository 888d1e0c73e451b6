-- The core that an operator of the running task needs.
use Rattle.std.specs.Prelude.{◌≢◌, ℕ, ◌+◌, ◌*◌, max, ◌==◌, List, length, Option, Some, None, if◌then◌else◌}
use Rattle.b67_model.specs.Common.{Task, Job, SessionJob, array, code_of, live_tasks, Session, fixed}
use Rattle.b67_layout.specs.Orders.{IsInOrderButCounts}
use Rattle.b67_stack.specs.Represents.{Storage}
use Rattle.b67_layout.specs.Placement.{Placement}
use Rattle.b67_task.specs.declared.tables.Machine.{Machine}
use Rattle.b67_task.specs.Tables.{MachineRepresents}

-- the area of an array of so many words, 0 for none
abbrev pub array_area : ℕ → ℕ
array_area words = if words == 0 then 0 else words + 2

-- the MCP, dictionaries, stacks, the running segment and an array, where an operator starts so many tasks and touches an
-- array of so many words, 0 for none
abbrev pub need_with : Session → SessionJob → Task → ℕ → ℕ → ℕ
need_with s m t stacks words =
    fixed s.jobs + max s.peak (live_tasks s.jobs + stacks) * m.constants.stack_size + (length (code_of m.constants t.segment) + 2) + array_area words

-- the words of the array that is touched, 0 for none
abbrev pub touched_words : Job → Option ℕ → ℕ
touched_words job None = 0
touched_words job (Some a) = length (array job a).numbers

-- an array that is touched has words
abbrev pub HasWords : Job → Option ℕ → Type 0
HasWords job None = Unit {0}
HasWords job (Some a) = touched_words job (Some a) ≢ 0

-- the machine represents some session in order
pub record StandsOrdered (k : Machine) : Type 0 where
  pub storage : Storage
  pub told : Option (List (List ℕ))
  pub plan : Placement
  pub session : Session
  pub ordered : IsInOrderButCounts session
  pub stands : MachineRepresents storage told k plan session
