-- The operator that the running task makes, over the whole machine, and what a call keeps of the machine.
use Rattle.std.specs.Prelude.{◌≡◌, ◌≢◌, ℕ, ◌≤◌, List, Option, Some, None, Result, Ok, Err}
use Rattle.b67_word.specs.declared.couples.Place.{Place}
use Rattle.b67_model.specs.declared.operators.Op.TheVariants.{Plain}
use Rattle.b67_model.specs.declared.operators.Code.TheVariants.{Entr}
use Rattle.b67_model.specs.Common.{Task, SessionJob, reading_of, Session}
use Rattle.b67_stack.specs.Represents.{Storage}
use Rattle.b67_layout.specs.Placement.{Placement}
use Rattle.b67_exec_cells.specs.Running.{code_area}
use Rattle.b67_mcp.specs.Printed.{MayCut}
pub use Rattle.b67_mcp.specs.Process.{CanNumber}
use Rattle.b67_task.specs.declared.tables.JobRow.{JobRow}
use Rattle.b67_task.specs.declared.tables.Machine.{Machine}
use Rattle.b67_task.specs.Runs.{RunsTask, ForEachRun}
pub use Rattle.b67_task.specs.Runs.{Keeps}
use Rattle.b67_exec_cells.specs.Called.{called_in}
use Rattle.b67_io.specs.Causes.{Rose}
use Rattle.b67_mcp.specs.declared.ends.Stop.{Stop}
use Rattle.b67_mcp.specs.declared.ends.Stop.TheVariants.{BackingFault, PrintFault}
use Rattle.b67_mcp.specs.Called.{AreCountable}

-- for each session in order that the machine represents, with its running task, whose segment is present
abbrev pub ForRuns : Machine → (Storage → Option (List (List ℕ)) → Placement → Session → SessionJob → Task → Type 0) → Type 0
ForRuns k P = ForEachRun k (λ x told plan s m t. code_area x plan m t ≢ None → P x told plan s m t)

-- where that task's operator calls this intrinsic
abbrev pub ForCalls : Machine → ℕ → (Storage → Option (List (List ℕ)) → Placement → Session → SessionJob → Task → Type 0) → Type 0
ForCalls k n P = ForRuns k (λ x told plan s m t. called_in m t ≡ Some n → P x told plan s m t)

-- ENTR stands at the running place, and this is the place behind it
abbrev pub IsBehind : SessionJob → Task → Place → Type 0
IsBehind m t next = reading_of m.constants t ≡ Ok (Plain Entr, next)

-- the machine represents some session in order, and ENTR stands at its running place
pub record StandsAtEntr (k : Machine) : Type 0 where
  pub runs : RunsTask k
  pub code : code_area runs.storage runs.plan runs.member runs.task ≢ None
  pub next : Place
  pub behind : IsBehind runs.member runs.task next

-- and its top activation record is a call that may be cut
pub record CutsSome (k : Machine) : Type 0 where
  pub reads : StandsAtEntr k
  pub may : MayCut reads.runs.member reads.runs.task

-- the jobs' rows have room: numbers that are told stay within their types, and each job's next task can be numbered
pub record JobsHaveRoom (rows : List JobRow) : Type 0 where
  pub countable : AreCountable rows
  pub number : CanNumber rows

-- the printer's count of failures hasn't fallen, and has risen where the call failed to print
pub record IsHeard {K A : Type 0} (faults : K → ℕ) (old new : K) (result : Result A Stop) : Type 0 where
  pub later : faults old ≤ faults new
  pub failed : result ≡ Err PrintFault → Rose faults old new

-- a call without a printer: the device's count of failures has risen where it failed
pub record SilentCauses {B A : Type 0} (failed : B → ℕ) (backing backing' : B) (answered : Result A Stop) : Type 0 where
  pub device : answered ≡ Err BackingFault → Rose failed backing backing'
  pub silent : answered ≢ Err PrintFault

-- the device's count of failures has risen where it failed; so has the printer's, which never falls
pub record CallCauses {B K A : Type 0} (failed : B → ℕ) (unprinted : K → ℕ) (backing backing' : B) (paper paper' : K) (answered : Result A Stop) : Type 0 where
  pub printer : IsHeard unprinted paper paper' answered
  pub device : answered ≡ Err BackingFault → Rose failed backing backing'
