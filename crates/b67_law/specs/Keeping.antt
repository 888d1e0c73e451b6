-- What the row of an operator keeps.
use Rattle.std.specs.Prelude.{◌≡◌, false, Ok, Err}
use Rattle.b67_word.specs.declared.couples.Place.{Place}
use Rattle.b67_model.specs.declared.operators.Op.{Op}
use Rattle.b67_model.specs.Common.{Answer, Task, JobConstants, Job, OperatorContext, running_level, Done, Goes, Leaves, Waits, may_be_last, row, Starts, IsSegment, IsStart, TasksInOrder, ConditionInOrder, reach_of}
use Rattle.b67_law.specs.Ends.{StepsFrom}
use Rattle.b67_law.specs.Parameters.{ParametersFit}

-- the state that a step leads to is in order; so is what a task that waits waits for
abbrev pub KeepsOrder : Starts → JobConstants → Job → Task → Answer Done → Type 0
KeepsOrder P constants job task (Ok (Goes after printed touched)) = TasksInOrder P constants after
KeepsOrder P constants job task (Ok Leaves) = Unit {0}
KeepsOrder P constants job task (Ok (Waits condition)) = ConditionInOrder (reach_of job task) condition
KeepsOrder P constants job task (Err fault) = Unit {0}

-- the place after an operator, where it may go on there
abbrev pub AfterFits : Starts → OperatorContext → Op → Type 0
AfterFits P h op = may_be_last op ≡ false → P h.task.segment (running_level h) h.task.place

-- the row of an operator whose parameters fit
abbrev pub RowKeepsOrder : (JobConstants → Starts) → Type 0
RowKeepsOrder P =
    (constants : JobConstants) (job : Job) (task : Task) (op : Op) (next : Place) → StepsFrom (P constants) constants job task →
    let h : OperatorContext = record { constants = constants; job = job; task = record task { place = next }; at = task.place } in
    AfterFits (P constants) h op → ParametersFit (P constants) h op → KeepsOrder (P constants) constants job task (row op h)

abbrev pub EachRowKeepsOrder : Type 0
EachRowKeepsOrder = RowKeepsOrder IsSegment × RowKeepsOrder IsStart
