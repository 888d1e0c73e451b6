-- Calls that print nothing: what one answers and leaves, and the number that READ takes.
use Rattle.std.specs.Prelude.{◌≡◌, ℕ, ◌-◌, List, [], length, Option, Some, None, Result, Ok, Err, slice_set}
use Rattle.b67_word.specs.Tagged.{Tagged}
use Rattle.b67_word.specs.declared.faults.Fault.{Fault}
use Rattle.b67_model.specs.Common.{Word, Task, Job, SessionJob, Goes, step, Session}
use Rattle.b67_stack.specs.declared.Cpu.{Cpu}
use Rattle.b67_stack.specs.Represents.{Storage}
use Rattle.b67_layout.specs.Common.{Placement, JobShows, ForEach, with_job, session_moved}
use Rattle.b67_mcp.specs.Printed.{IsCall}
use Rattle.b67_mcp.specs.Reads.{ReadMeets}
use Rattle.b67_task.specs.declared.tables.JobRow.{JobRow}
use Rattle.b67_task.specs.declared.tables.Machine.{Machine}
use Rattle.b67_task.specs.Tables.{job_row, MachineRepresents}
use Rattle.b67_task.specs.declared.tables.TaskState.{TaskState}
use Rattle.b67_mcp.specs.Called.{WaitsSo, StaysInPlace, IsUnstarted, IsUnstartedFull, LacksCore}
use Rattle.b67_mcp.specs.declared.ends.CallEnd.{CallEnd}
use Rattle.b67_mcp.specs.declared.ends.CallEnd.TheVariants as ends
use Rattle.b67_mcp.specs.declared.ends.Stop.{Stop}
use Rattle.b67_mcp.specs.declared.ends.Stop.TheVariants as stops

-- the call was made, and the machine represents what its row makes; how much of the next text is printed stays
pub record IsAnswered (told : Option (List (List ℕ))) (s : Session) (m : SessionJob) (t : Task) (old new : Machine) : Type 0 where
  pub job : Job
  pub is : step m.constants m.progress.job t ≡ Ok (Goes job [] None)
  pub storage : Storage
  pub plan : Placement
  pub stands : MachineRepresents storage told new plan (with_job s m job)
  pub printed : new.tasks.printed ≡ old.tasks.printed

-- or it faults, and nothing has changed
abbrev pub AnswerMeets : Storage → Option (List (List ℕ)) → Placement → Session → SessionJob → Task → Result (Unit {0}) Fault → Machine → Machine → Type 0
AnswerMeets x told plan s m t (Ok done) old new = (a : IsAnswered told s m t old new) × StaysInPlace x a.storage plan a.plan m t a.job
AnswerMeets x told plan s m t (Err fault) old new = (step m.constants m.progress.job t ≡ Err fault) × (new ≡ old)

-- the same of a call that may start a task, which counts for the peak then
pub record IsMoved (told : Option (List (List ℕ))) (s : Session) (m : SessionJob) (t : Task) (old new : Machine) : Type 0 where
  pub job : Job
  pub is : step m.constants m.progress.job t ≡ Ok (Goes job [] None)
  pub storage : Storage
  pub plan : Placement
  pub stands : MachineRepresents storage told new plan (session_moved s m job (length job.tasks - length m.progress.job.tasks))
  pub printed : new.tasks.printed ≡ old.tasks.printed

-- by what PROCESS, AWAIT, STATUS, WAIT or CAUSE answered, which print and touch nothing, over a device of so many sectors that
-- tells this afterwards
abbrev pub SilentMeets : Storage → Option (List (List ℕ)) → ℕ → Placement → Session → SessionJob → Task → Result CallEnd Stop → Machine → Machine → Type 0
SilentMeets x told count plan s m t (Ok ends.Done) old new = (a : IsMoved told s m t old new) × StaysInPlace x a.storage plan a.plan m t a.job
SilentMeets x told count plan s m t (Ok (ends.Fault fault)) old new = (step m.constants m.progress.job t ≡ Err fault) × (new ≡ old)
SilentMeets x told count plan s m t (Ok (ends.Waits state)) old new = WaitsSo plan m t state × (new ≡ old)
SilentMeets x told count plan s m t (Err (stops.NoCore words size)) old new = LacksCore (length old.cpu.core) s m t words size × (new ≡ old)
SilentMeets x told count plan s m t (Err (stops.BackingFull sum size)) old new = IsUnstartedFull told count plan s m t sum size old new
SilentMeets x told count plan s m t (Err stops.BackingFault) old new = IsUnstarted told plan s m t old new
SilentMeets x told count plan s m t answered old new = ⊥

-- of the rows of jobs one was changed, as READ does
pub record Takes (cpu : Cpu) (rows rows' : List JobRow) (at : ℕ) (row : JobRow) (answer : Result Tagged Fault) : Type 0 where
  pub new : JobRow
  pub is : rows' ≡ slice_set rows at new
  pub takes : ForEach cpu (λ x plan s m t. (reference : Word) (arguments : List Word) → IsCall t reference arguments → JobShows plan m (job_row row) → ReadMeets plan m t arguments row new answer)

-- the end of a call that makes its task go on
abbrev pub call_end_of : Result (Unit {0}) Fault → CallEnd
call_end_of (Ok done) = ends.Done
call_end_of (Err fault) = ends.Fault fault

-- and of one that may make it wait
abbrev pub waiting_end : Result (Option TaskState) Fault → CallEnd
waiting_end (Ok None) = ends.Done
waiting_end (Ok (Some state)) = ends.Waits state
waiting_end (Err fault) = ends.Fault fault
