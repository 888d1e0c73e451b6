-- What a step leaves of all tasks: their numbers, parents, critical frames and conditions; and that it makes no array.
use Rattle.std.specs.Prelude.{◌≡◌, ℕ, List, [], map, Option, Some, None, Ok}
use Rattle.b67_model.specs.declared.operators.Op.{Op}
use Rattle.b67_model.specs.Common.{Word, Condition, Task, Job, OperatorContext, Line, Goes, print, row, called}
use Rattle.b67_model.specs.Keyed.{keyed}

pub record Profile : Type 0 where
  pub number : ℕ
  pub parents : List ℕ
  pub critical : ℕ
  pub condition : Condition

abbrev pub profile : Task → Profile
profile t = record { number = t.number; parents = t.parents; critical = t.critical; condition = t.condition }

abbrev pub profiles : List Task → List Profile
profiles tasks = map profile tasks

-- the task that makes the operator stands in the job as it is known
abbrev pub IsKnown : OperatorContext → Type 0
IsKnown h = keyed (λ (p : Profile). p.number) h.task.number (profiles h.job.tasks) ≡ Some (profile h.task)

-- an operator that calls no intrinsic starts and ends no task, each goes on as ready as it was, and no array comes to be
abbrev pub RowsKeepProfiles : Type 0
RowsKeepProfiles =
    (op : Op) (h : OperatorContext) → IsKnown h → called op h ≡ None →
    (after : Job) (printed : List Line) (touched : Option ℕ) → row op h ≡ Ok (Goes after printed touched) →
    (profiles after.tasks ≡ profiles h.job.tasks) × (h.job.arrays ≡ [] → after.arrays ≡ [])
