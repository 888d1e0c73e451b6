-- A call of an intrinsic: the marked activation record on top, with a reference and arguments in its cells.
use Rattle.std.specs.Prelude.{◌≡◌, ◌≢◌, ℕ, ℤ, false, List, [], ◌∷◌, length, reverse, Option, Result, Ok, Err}
use Rattle.std.specs.List.{AllByRecursion}
use Rattle.b67_word.specs.Tagged.{Tagged}
use Rattle.b67_word.specs.declared.couples.Place.{Place}
use Rattle.b67_word.specs.declared.faults.Fault.{Fault}
use Rattle.b67_word.specs.declared.faults.Fault.TheVariants.{InvalidOperand}
use Rattle.b67_model.specs.Common.{Answer, ◌>>=◌, Word, number, Marked, Task, Job, SessionJob, Session, top, with_task, is_critical, is_original, answered}
use Rattle.b67_arith.specs.OnWords.{operand_bits}
use Rattle.b67_stack.specs.declared.Cpu.{Cpu}
use Rattle.b67_stack.specs.Represents.{Storage}
use Rattle.b67_layout.specs.Common.{Placement, RunsSome, here, GivesTop}
use Rattle.b67_task.specs.declared.tables.Machine.{Machine}
use Rattle.b67_task.specs.Runs.{RunsTask, ForEachRun}

-- the cells of a call from the first one up: the reference and the arguments
pub record IsCall (t : Task) (reference : Word) (arguments : List Word) : Type 0 where
  pub marked : (top t.frames).standing ≡ Marked
  pub plain : is_original reference ≡ false
  pub cells : reverse (top t.frames).cells ≡ reference ∷ arguments

-- a call that may be cut off the stack: no live task depends on it, and it holds no original
pub record MayCut (m : SessionJob) (t : Task) : Type 0 where
  pub marked : (top t.frames).standing ≡ Marked
  pub plain : AllByRecursion (λ (w : Word). is_original w ≡ false) (top t.frames).cells
  pub free : is_critical m.progress.job (top t.frames).identity ≡ false

-- the job without the call, whose task goes on at a place
abbrev pub job_cut : SessionJob → Task → Place → Job
job_cut m t next = with_task m.progress.job (answered (here m t next) [])

-- a machine with such a call on its running stack
pub record CutSome (cpu : Cpu) : Type 0 where
  pub runs : RunsSome cpu
  pub may : MayCut runs.member runs.task

-- a machine with a call on its running stack
pub record CallSome (cpu : Cpu) : Type 0 where
  pub runs : RunsSome cpu
  pub reference : Word
  pub arguments : List Word
  pub call : IsCall runs.task reference arguments

-- two cells, the upper of which is the argument; or a call with another number of arguments
abbrev pub OnlyCell : Storage → Placement → SessionJob → Task → Cpu → List Word → Result Tagged Fault → Type 0
OnlyCell x plan m t cpu cs (Ok w) = (length cs ≡ 2) × GivesTop x plan m t cpu cs (Ok w)
OnlyCell x plan m t cpu cs (Err fault) = (length cs ≢ 2) × (fault ≡ InvalidOperand)

-- the number of a word, if it is a whole operand
abbrev pub operand_number : Tagged → Answer ℤ
operand_number w = operand_bits w >>= number

-- the machine represents some session in order, whose running task stands at the call of an intrinsic
pub record StandsAtCall (k : Machine) : Type 0 where
  pub runs : RunsTask k
  pub reference : Word
  pub arguments : List Word
  pub call : IsCall runs.task reference arguments

-- for each such session, with its running task and the arguments of the call
abbrev pub ForCall : Machine → (Storage → Option (List (List ℕ)) → Placement → Session → SessionJob → Task → List Word → Type 0) → Type 0
ForCall k P = ForEachRun k (λ x told plan s m t. (reference : Word) (arguments : List Word) → IsCall t reference arguments → P x told plan s m t arguments)
