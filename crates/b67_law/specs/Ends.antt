-- Where references lead in a state in order.
use Rattle.std.specs.Prelude.{◌≡◌, ℕ, ◌^◌, ◌<◌, ◌≤◌, List, length, Some, Ok, Err}
use Rattle.b67_word.specs.declared.couples.Place.{Place}
use Rattle.b67_model.specs.Common.{Answer, Operand, Name, Ready, Task, JobConstants, Job, OperatorContext, cell, array, End, AtCell, AtElement, AtArray, AtProc, AtIntrinsic, chase, Starts, IsSegment, IsStart, Known, NamesEntered, NamesArray, SettingInOrder, TasksInOrder, reach_of}
use Rattle.b67_model.specs.Keyed.{keyed}

-- an entered frame, and not the MCP's or a dictionary's
pub record IsProcOf (P : Starts) (reach : List Known) (f segment level : ℕ) (place : Place) : Type 0 where
  pub names : NamesEntered reach f
  pub own : 1 < f
  pub high : level ≤ 31
  pub starts : P segment level place

pub record IsCell (h : OperatorContext) (reach : List Known) (f offset bits : ℕ) : Type 0 where
  pub names : NamesEntered reach f
  pub low : offset < 2 ^ 12
  pub bound : bits < 2 ^ 48
  pub found : cell h f offset ≡ Ok (Operand bits)

-- an element of a live array, by the array's length as it is now
pub record IsElement (h : OperatorContext) (reach : List Known) (a index : ℕ) : Type 0 where
  pub names : NamesArray h.job.arrays reach a
  pub inside : index < length (array h.job a).numbers

-- what the end of a reference may be
abbrev pub EndInOrder : Starts → OperatorContext → End → Type 0
EndInOrder P h (AtCell f offset bits) = IsCell h (reach_of h.job h.task) f offset bits
EndInOrder P h (AtElement a index) = IsElement h (reach_of h.job h.task) a index
EndInOrder P h (AtArray a) = NamesArray h.job.arrays (reach_of h.job h.task) a
EndInOrder P h (AtProc f segment level place) = IsProcOf P (reach_of h.job h.task) f segment level place
EndInOrder P h (AtIntrinsic n) = Unit {0}

-- a live task that is ready, in a job in order. No job comes near so many tasks, since the next task's number is at most
-- two above its count of operators
pub record StepsFrom (P : Starts) (constants : JobConstants) (job : Job) (task : Task) : Type 0 where
  pub unchanging : SettingInOrder constants
  pub order : TasksInOrder P constants job
  pub live : keyed (λ t. t.number) task.number job.tasks ≡ Some task
  pub ready : task.condition ≡ Ready
  pub few : job.next_task < 2 ^ 48

abbrev pub EndsInOrder : Starts → OperatorContext → Answer End → Type 0
EndsInOrder P h (Ok end) = EndInOrder P h end
EndsInOrder P h (Err fault) = Unit {0}

-- a couple of the running task leads to a fault, or to an end in order
abbrev pub CouplesEndInOrder : Type 0
CouplesEndInOrder =
    (constants : JobConstants) (job : Job) (task : Task) (couple : ℕ) → couple < 2 ^ 14 →
    let h : OperatorContext = record { constants = constants; job = job; task = task; at = task.place } in
    (StepsFrom (IsSegment constants) constants job task → EndsInOrder (IsSegment constants) h (chase h (Name couple)))
    × (StepsFrom (IsStart constants) constants job task → EndsInOrder (IsStart constants) h (chase h (Name couple)))
