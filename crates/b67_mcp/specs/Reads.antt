-- READ, over the row of its job.
use Rattle.std.specs.Prelude.{◌≡◌, ◌<◌, ◌^◌, ℤ, nat_abs, List, [], drop, None, Result, Ok, Err}
use Rattle.std.specs.List.{AllByRecursion}
use Rattle.b67_word.specs.Tagged.{Tagged, word}
use Rattle.b67_word.specs.declared.couples.Place.{Place}
use Rattle.b67_word.specs.declared.faults.Fault.{Fault}
use Rattle.b67_model.specs.Common.{Word, Operand, Task, Job, SessionJob, Goes, read_from, read}
use Rattle.b67_stack.specs.declared.Cpu.{Cpu}
use Rattle.b67_layout.specs.Common.{Placement, JobShows, here}
use Rattle.b67_task.specs.declared.tables.JobRow.{JobRow}
use Rattle.b67_task.specs.Tables.{job_row}
use Rattle.b67_mcp.specs.Printed.{CallSome, MayCut}
use Rattle.b67_mcp.specs.Answered.{job_answered}

-- the numbers that a row says are left to read
abbrev pub left_in : JobRow → List ℤ
left_in row = drop row.next_number row.numbers

-- numbers that operands represent
abbrev pub AreOperands : List ℤ → Type 0
AreOperands numbers = AllByRecursion (λ (v : ℤ). nat_abs v < 2 ^ 39) numbers

-- a machine with a call on its running stack, and the row of its job
pub record ReadSome (cpu : Cpu) (row : JobRow) : Type 0 where
  pub some : CallSome cpu
  pub shows : JobShows some.runs.plan some.runs.member (job_row row)

-- the job where its task has read the next number
abbrev pub job_read : SessionJob → Task → Place → Job
job_read m t next = let taken = read_from m.progress.job.numbers in job_answered m t (Operand taken.0) next taken.1

-- the number was taken: the call may be cut off and answers it, and the row shows the job that READ makes
pub record NumberIsRead (plan : Placement) (m : SessionJob) (t : Task) (arguments : List Word) (old new : JobRow) (w : Tagged) : Type 0 where
  pub is : w ≡ word 0 (read_from m.progress.job.numbers).0
  pub may : MayCut m t
  pub makes : (next : Place) → read (here m t next) arguments ≡ Ok (Goes (job_read m t next) [] None)
  pub same : new ≡ record old { next_number = new.next_number }
  pub shows : (next : Place) → JobShows plan (record m { progress = record m.progress { job = job_read m t next } }) (job_row new)

-- READ takes the next number, or faults as its row does and takes none
abbrev pub ReadMeets : Placement → SessionJob → Task → List Word → JobRow → JobRow → Result Tagged Fault → Type 0
ReadMeets plan m t arguments old new (Ok w) = NumberIsRead plan m t arguments old new w
ReadMeets plan m t arguments old new (Err fault) = ((next : Place) → read (here m t next) arguments ≡ Err fault) × (new ≡ old)
