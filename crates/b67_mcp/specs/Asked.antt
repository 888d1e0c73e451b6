-- The task that a call of PROCESS asks for.
use Rattle.std.specs.Prelude.{◌≡◌, ℕ, ◌+◌, ◌≤◌, nat_lt, nat_le, Bool, false, List, [], ◌∷◌, reverse, take, length, None, Result, Ok, Err, if◌then◌else◌}
use Rattle.b67_model.specs.declared.limits.TheConstants.{MOST_TASKS}
use Rattle.b67_word.specs.declared.couples.Place.{Place}
use Rattle.b67_word.specs.declared.faults.Fault.{Fault}
use Rattle.b67_word.specs.declared.faults.Fault.TheVariants.{StackOverflow}
use Rattle.b67_lemmas.specs.Lists.{Has}
use Rattle.b67_model.specs.Common.{Answer, ◌>>◌, needs, Word, Operand, Task, Job, SessionJob, OperatorContext, with_task, Done, Goes, needs_level, is_original, answered, needs_free, process}
use Rattle.b67_stack.specs.declared.Cpu.{Cpu}
use Rattle.b67_layout.specs.Common.{Placement, RunsSome, here, cells}
use Rattle.b67_mcp.specs.Calls.{MayCut}
use Rattle.b67_task.specs.Starts.{IsProcCell, child, with_child}
use Rattle.b67_mcp.specs.declared.process_asked.Asked.{Asked}

-- the running task's top activation record has so many cells
pub record HasCells (cpu : Cpu) (count : ℕ) : Type 0 where
  pub runs : RunsSome cpu
  pub enough : count ≤ length (cells runs.task)

-- the job in which the call has started a task, or has answered 0, and its task goes on at a place
abbrev pub job_started : SessionJob → Task → Task → Place → Job
job_started m t new next = with_task (with_child m.progress.job new) (answered (here m t next) (Operand m.progress.job.next_task ∷ []))

abbrev pub job_full : SessionJob → Task → Place → Job
job_full m t next = with_task m.progress.job (answered (here m t next) (Operand 0 ∷ []))

-- the answer of a call without a fault, by whether its job may have another task
abbrev pub answer_by : Bool → SessionJob → Task → Task → Place → Answer Done
answer_by few m t new next = if few then Ok (Goes (job_started m t new next) [] None) else Ok (Goes (job_full m t next) [] None)

-- a task may be started in a procedure of this level in this activation record, with so many words, and the call be cut off
abbrev pub admits : OperatorContext → ℕ → ℕ → ℕ → Answer (Unit {0})
admits h environment level count = needs_level h environment level >> (needs (nat_le (3 + count) h.constants.stack_size) StackOverflow >> needs_free h)

-- it may, or there is a fault
abbrev pub AdmitMeets : ℕ → ℕ → Answer (Unit {0}) → Result Asked Fault → Type 0
AdmitMeets cell count answer (Ok asked) = (asked ≡ record { cell = cell; count = count }) × (answer ≡ Ok tt)
AdmitMeets cell count answer (Err fault) = answer ≡ Err fault

-- PROCESS asks for a task in the procedure of this cell, with copies of so many of the call's words; the call may be cut off
pub record Asks (plan : Placement) (m : SessionJob) (t : Task) (arguments : List Word) (cell count : ℕ) : Type 0 where
  pub f : ℕ
  pub segment : ℕ
  pub level : ℕ
  pub place : Place
  pub reference : Word
  pub words : List Word
  pub are : arguments ≡ reference ∷ words
  pub count_is : count ≡ length words
  pub copied : take count (cells t) ≡ reverse words
  pub plain : (w : Word) → Has (take count (cells t)) w → is_original w ≡ false
  pub proc : IsProcCell plan m t cell f segment level place
  pub room : 3 + count ≤ m.constants.stack_size
  pub may : MayCut m t
  pub makes : (next : Place) → process (here m t next) arguments ≡ answer_by (nat_lt (length m.progress.job.tasks) MOST_TASKS) m t (child m t count f segment level place) next

-- or it faults as its row does
abbrev pub AskMeets : Placement → SessionJob → Task → List Word → Result Asked Fault → Type 0
AskMeets plan m t arguments (Ok asked) = Asks plan m t arguments asked.cell asked.count
AskMeets plan m t arguments (Err fault) = (next : Place) → process (here m t next) arguments ≡ Err fault
