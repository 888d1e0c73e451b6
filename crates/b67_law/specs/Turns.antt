-- A step of the task that makes the next one, and the laws of this crate.
use Rattle.std.specs.Prelude.{◌≡◌, List, map, Option, Some, None}
use Rattle.b67_model.specs.Common.{JobMoment, moment_with, Stepped, IsInOrderButPlaces, Line, RunLine, StepResult, with_moment, of_job, Session, Choice, choice, Ready, Task, SessionJob}
pub use Rattle.b67_model.specs.Common.{IsNext}
use Rattle.b67_law.specs.Weaker.{AllOtherNumbers}
use Rattle.b67_session_lines.specs.Moments.{last_part}
use Rattle.b67_law.specs.Orders.{IsInOrderButLimit, SettlesInOrder}

-- the first part of a step whose operator made this, or ended its task so
abbrev pub part_of : Session → Choice → SessionJob → Task → Stepped → StepResult
part_of s c m t made =
    let moment : JobMoment = moment_with m.progress t made made.settled in
    record { session = with_moment s c m moment; lines = of_job c.who.job moment.lines }

-- the lines of what a step of a task prints
abbrev pub task_lines : SessionJob → Task → List Line → List RunLine
task_lines m t printed = of_job m.constants.number (map (λ line. (t.number, line)) printed)

-- ---- laws

abbrev pub ChoiceIgnoresNumbers : Type 0
ChoiceIgnoresNumbers = (s : Session) (jobs : List SessionJob) → AllOtherNumbers s.jobs jobs → choice (record s { jobs = jobs }) ≡ choice s

abbrev pub ChosenTasksAreReady : Type 0
ChosenTasksAreReady =
    (s : Session) (c : Choice) → IsInOrderButPlaces s → choice s ≡ Some c → (m : SessionJob) × (t : Task) × (n : IsNext s m t) × (n.chosen ≡ c) × (t.condition ≡ Ready)

abbrev pub FirstPartsKeepOrder : Type 0
FirstPartsKeepOrder =
    (s : Session) (m : SessionJob) (t : Task) (n : IsNext s m t) (made : Stepped) → IsInOrderButPlaces s → SettlesInOrder m.constants m.progress made.alive made.settled →
    IsInOrderButLimit (part_of s n.chosen m t made).session

abbrev pub OrderAfter : Session → Option StepResult → Type 0
OrderAfter h None = IsInOrderButPlaces h
OrderAfter h (Some rest) = IsInOrderButPlaces rest.session

abbrev pub LastPartsRestoreOrder : Type 0
LastPartsRestoreOrder = (h : Session) → IsInOrderButLimit h → OrderAfter h (last_part h)
