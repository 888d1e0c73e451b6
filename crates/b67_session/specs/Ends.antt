-- The end of a step over the whole machine: what is printed, and for which session the machine stands then.
use Rattle.std.specs.Prelude.{◌≡◌, ◌≢◌, ℕ, List, [], Option, Some, None, Result, Ok, Err, slice_get}
use Rattle.b67_word.specs.declared.faults.Failed.{Failed}
use Rattle.b67_model.specs.Common.{run_text, StepResult, Session, SessionJob}
use Rattle.b67_lemmas.specs.Lists.{Has}
use Rattle.b67_session_lines.specs.Moments.{last_part}
use Rattle.b67_session_lines.specs.Parts.{TookRest, TookMore}
use Rattle.b67_stack.specs.Represents.{Storage}
use Rattle.b67_layout.specs.Placement.{Placement}
use Rattle.b67_layout.specs.Orders.{IsInOrderButCounts}
use Rattle.b67_task.specs.declared.tables.TaskRow.{TaskRow}
use Rattle.b67_task.specs.declared.tables.Machine.{Machine}
use Rattle.b67_task.specs.Tables.{MachineRepresents}
pub use Rattle.b67_task.specs.Deaths.{LeavesInPlace}
pub use Rattle.b67_task.specs.Families.{StandsForSession, StandsInPlace, IsFamilyOf, EndsFamily}
use Rattle.b67_law.specs.Orders.{IsInOrderButLimit}

-- the row of a job's first task
pub record IsFirstRow (rows : List TaskRow) (job at : ℕ) : Type 0 where
  pub row : TaskRow
  pub there : slice_get rows at ≡ Some row
  pub of_job : row.job ≡ job
  pub first : row.number ≡ 1

-- the machine represents some session in order but for counts, a job of which has live tasks
pub record JobLives (k : Machine) (job : ℕ) : Type 0 where
  pub storage : Storage
  pub told : Option (List (List ℕ))
  pub plan : Placement
  pub session : Session
  pub member : SessionJob
  pub ordered : IsInOrderButCounts session
  pub stands : MachineRepresents storage told k plan session
  pub among : Has session.jobs member
  pub number : member.constants.number ≡ job
  pub lives : member.progress.job.tasks ≢ []

-- the machine represents some session between the parts of a step
pub record StandsBetween (k : Machine) : Type 0 where
  pub storage : Storage
  pub told : Option (List (List ℕ))
  pub plan : Placement
  pub session : Session
  pub ordered : IsInOrderButLimit session
  pub stands : MachineRepresents storage told k plan session

-- the last part of a step: what isn't printed yet of its lines was printed, and its tasks have ended, with what is left of the
-- session held as in this storage; or nothing has changed but how much of them is printed
abbrev pub LimitEnds : {K : Type 0} → (K → Option (List ℕ)) → Storage → Option (List (List ℕ)) → Placement → Session → StepResult → Result (Unit {0}) Failed → Machine → Machine → K → K → Type 0
LimitEnds taken x told plan h part (Ok done) old new paper paper' =
    TookRest taken paper paper' (run_text part.lines) old.tasks.printed × (new.tasks.printed ≡ 0) × StandsInPlace x told new plan h part.session
LimitEnds taken x told plan h part (Err failed) old new paper paper' =
    TookMore taken paper paper' (run_text part.lines) old.tasks.printed new.tasks.printed × (new ≡ record old { tasks = record old.tasks { printed = new.tasks.printed } })

-- where there is none, nothing is done
abbrev pub Finishes : {K : Type 0} → (K → Option (List ℕ)) → Storage → Option (List (List ℕ)) → Placement → Session → Option StepResult → Result (Unit {0}) Failed → Machine → Machine → K → K → Type 0
Finishes taken x told plan h None (Ok done) old new paper paper' = (new ≡ old) × (paper' ≡ paper)
Finishes taken x told plan h None (Err failed) old new paper paper' = ⊥
Finishes taken x told plan h (Some part) answered old new paper paper' = LimitEnds taken x told plan h part answered old new paper paper'

-- the machine represents some session whose last part is due
pub record HasLimited (k : Machine) : Type 0 where
  pub between : StandsBetween k
  pub part : StepResult
  pub is_due : last_part between.session ≡ Some part
