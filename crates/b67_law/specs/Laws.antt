-- The laws of this crate: what each step of the model keeps.
use Rattle.std.specs.Prelude.{◌≡◌, Some, Ok}
use Rattle.b67_word.specs.declared.couples.Place.{Place}
use Rattle.b67_model.specs.declared.operators.Op.{Op}
use Rattle.b67_law.specs.Ends.{StepsFrom}
use Rattle.b67_law.specs.Keeping.{KeepsOrder}
use Rattle.b67_model.specs.Keyed.{keyed}
use Rattle.b67_model.specs.Common.{Ready, Task, JobConstants, Job, JobProgress, Program, IsAdmitted, reading_of, step, Starts, IsSegment, IsStart, TasksInOrder, JobInOrder}
use Rattle.b67_model.specs.Alone.{whole}

-- each operator and each intrinsic keeps all items but those on counts and on places, over any code words
abbrev pub RowsKeepOrderButPlaces : Type 0
RowsKeepOrderButPlaces =
    (constants : JobConstants) (job : Job) (task : Task) → StepsFrom (IsSegment constants) constants job task →
    KeepsOrder (IsSegment constants) constants job task (step constants job task)

-- over an admitted codefile each keeps the items on places too
abbrev pub RowsKeepOrder : Type 0
RowsKeepOrder =
    (p : Program) (constants : JobConstants) (job : Job) (task : Task) → IsAdmitted p → constants.segments ≡ p.segments → StepsFrom (IsStart constants) constants job task →
    KeepsOrder (IsStart constants) constants job task (step constants job task)

-- a whole step of a ready task, with the endings and the counts: it keeps the job in order, over an admitted codefile and,
-- but for the items on places, over any code words
abbrev pub KeptBySteps : (JobConstants → Starts) → JobConstants → JobProgress → Task → Type 0
KeptBySteps P constants c task =
    JobInOrder (P constants) constants c → keyed (λ t. t.number) task.number c.job.tasks ≡ Some task → task.condition ≡ Ready →
    JobInOrder (P constants) constants (whole constants c task).progress

abbrev pub StepsKeepOrderButPlaces : Type 0
StepsKeepOrderButPlaces = (constants : JobConstants) (c : JobProgress) (task : Task) → KeptBySteps IsSegment constants c task

abbrev pub StepsKeepOrder : Type 0
StepsKeepOrder = (p : Program) (constants : JobConstants) (c : JobProgress) (task : Task) → IsAdmitted p → constants.segments ≡ p.segments → KeptBySteps IsStart constants c task

-- over an admitted codefile an operator stands at the place of every live task
abbrev pub PlacesHaveOperators : Type 0
PlacesHaveOperators =
    (p : Program) (constants : JobConstants) (job : Job) (task : Task) → IsAdmitted p → constants.segments ≡ p.segments → TasksInOrder (IsStart constants) constants job → keyed (λ t. t.number) task.number job.tasks ≡ Some task →
    (op : Op) × (next : Place) × (reading_of constants task ≡ Ok (op, next))
