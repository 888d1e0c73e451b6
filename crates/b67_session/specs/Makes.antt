-- What making the operator at the running place answers, and the machine that it leaves once a left activation record's
-- arrays were given back.
use Rattle.std.specs.Prelude.{◌≡◌, ℕ, ◌+◌, ◌⊎◌, true, List, [], ◌∷◌, Option, Some, None, Ok, Err, slice_get}
use Rattle.b67_area.specs.Spans.{InHole}
use Rattle.b67_model.specs.Common.{Ready, Task, Job, SessionJob, Goes, Leaves, reading_of, step, Session}
use Rattle.b67_stack.specs.declared.What.TheVariants as what
use Rattle.b67_stack.specs.declared.Step.{Step}
use Rattle.b67_stack.specs.declared.Step.TheVariants as answers
use Rattle.b67_stack.specs.Represents.{Storage}
use Rattle.b67_layout.specs.Common.{Placement, with_job, objects_gone, FindsAbsent, TouchedIsPresent, MayChange}
use Rattle.b67_exec_cells.specs.Running.{code_area}
use Rattle.b67_exec_cells.specs.Called.{called_in}
use Rattle.b67_exec.specs.Operators.{leaves_record}
use Rattle.b67_task.specs.Released.{HasHome, Released}
use Rattle.b67_task.specs.declared.tables.Machine.{Machine}
use Rattle.b67_task.specs.Tables.{MachineRepresents}
use Rattle.b67_task.specs.Runs.{ForEachRun}

-- a word that is written as areas are given back: the directory's first, or one of a hole
abbrev pub MayFree : Storage → ℕ → Type 0
MayFree x i = (i ≡ 152) ⊎ InHole x.low x.spans i

-- the operator was made, and the machine represents what its row makes. The arrays of a record that was left are given
-- back, and every other array, segment and data row is held as it was. Only words have changed that the operator may
-- change and, where a record was left, words of the directory and of holes
pub record OperatorMade (x : Storage) (told : Option (List (List ℕ))) (plan : Placement) (s : Session) (m : SessionJob) (t : Task) (old new : Machine) : Type 0 where
  pub job : Job
  pub touched : Option ℕ
  pub is : step m.constants m.progress.job t ≡ Ok (Goes job [] touched)
  pub present : TouchedIsPresent x plan m.constants.number touched
  pub storage : Storage
  pub stands : MachineRepresents storage told new plan (with_job s m job)
  pub released : Released (HasHome (objects_gone plan m job)) x storage
  pub changed : (i : ℕ) → (slice_get new.cpu.core i ≡ slice_get old.cpu.core i)
      ⊎ (MayChange x plan m old.cpu.regs touched i ⊎ ((leaves_record (reading_of m.constants t) ≡ true) × MayFree storage i))

-- by what was answered, where the operator calls no intrinsic: after all answers but Done nothing has changed
abbrev pub StepMakes : Storage → Option (List (List ℕ)) → Placement → Session → SessionJob → Task → Step → Machine → Machine → Type 0
StepMakes x told plan s m t answers.Done old new = OperatorMade x told plan s m t old new
StepMakes x told plan s m t (answers.Absent found) old new = FindsAbsent x plan m found (step m.constants m.progress.job t) × (new ≡ old)
StepMakes x told plan s m t (answers.Call n) old new = ⊥
StepMakes x told plan s m t (answers.Fault fault) old new = (step m.constants m.progress.job t ≡ Err fault) × (new ≡ old)
StepMakes x told plan s m t answers.Ended old new = (step m.constants m.progress.job t ≡ Ok Leaves) × (new ≡ old)

abbrev pub CallsOrMakes : Storage → Option (List (List ℕ)) → Placement → Session → SessionJob → Task → Step → Machine → Machine → Option ℕ → Type 0
CallsOrMakes x told plan s m t answered old new (Some n) = (answered ≡ answers.Call n) × (new ≡ old)
CallsOrMakes x told plan s m t answered old new None = StepMakes x told plan s m t answered old new

-- the running segment is absent; or its operator calls an intrinsic; or it was made
abbrev pub MakesAt : Storage → Option (List (List ℕ)) → Placement → Session → SessionJob → Task → Step → Machine → Machine → Option ℕ → Type 0
MakesAt x told plan s m t answered old new None = (answered ≡ answers.Absent (what.Code (t.segment + 1))) × (new ≡ old)
MakesAt x told plan s m t answered old new (Some at) = CallsOrMakes x told plan s m t answered old new (called_in m t)

abbrev pub MakesInSegment : Storage → Option (List (List ℕ)) → Placement → Session → SessionJob → Task → Step → Machine → Machine → Type 0
MakesInSegment x told plan s m t answered old new = MakesAt x told plan s m t answered old new (code_area x plan m t)

-- for each session in order that the machine represents, with its running task, which is ready
abbrev pub ForEachReady : Machine → (Storage → Option (List (List ℕ)) → Placement → Session → SessionJob → Task → Type 0) → Type 0
ForEachReady k P = ForEachRun k (λ x told plan s m t. t.condition ≡ Ready → P x told plan s m t)

-- the operator at the running place was made
abbrev pub MakesOne : Machine → Machine → Type 0
MakesOne old new = ForEachReady old (λ x told plan s m t. MakesInSegment x told plan s m t answers.Done old new)

-- Operators were made one after the other, as each row makes them; those between the first and the last machine are told from the
-- last on
abbrev pub MakesEach : List Machine → Machine → Machine → Type 0
MakesEach [] old new = new ≡ old
MakesEach (k ∷ before) old new = MakesOne k new × MakesEach before old k
