-- What a row keeps of its job's arrays, and which array it touches.
use Rattle.std.specs.Prelude.{◌≡◌, ℕ, List, [], Bool, true, false, Option, Some, Ok}
use Rattle.b67_model.specs.declared.operators.Op.{Op}
use Rattle.b67_model.specs.declared.operators.Op.TheVariants.{Plain}
use Rattle.b67_model.specs.declared.operators.Code.TheVariants.{Exit, Retn}
use Rattle.b67_lemmas.specs.Lists.{Has}
use Rattle.b67_model.specs.Common.{Array, Task, Job, SessionJob, OperatorContext, Line, Goes, row, step, Session}
use Rattle.b67_layout.specs.Orders.{IsInOrderButCounts}
use Rattle.b67_layout.specs.Meets.{gone}

-- the operators that leave an activation record
abbrev pub is_leaving : Op → Bool
is_leaving (Plain Exit) = true
is_leaving (Plain Retn) = true
is_leaving _ = false

-- an operator that leaves no activation record keeps all arrays
abbrev pub RowsKeepArrays : Type 0
RowsKeepArrays =
    (op : Op) (h : OperatorContext) → is_leaving op ≡ false → (after : Job) (printed : List Line) (touched : Option ℕ)
    → row op h ≡ Ok (Goes after printed touched) → gone h.job after ≡ []

-- a step of a session in order touches an array of its job alone
abbrev pub StepsTouchArrays : Type 0
StepsTouchArrays =
    (s : Session) (m : SessionJob) (t : Task) → IsInOrderButCounts s → Has s.jobs m → Has m.progress.job.tasks t
    → (after : Job) (printed : List Line) (touched : ℕ) → step m.constants m.progress.job t ≡ Ok (Goes after printed (Some touched))
    → (a : Array) × Has m.progress.job.arrays a × (a.identity ≡ touched)
