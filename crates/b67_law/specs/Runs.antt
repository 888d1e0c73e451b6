-- What each step of a session, and so each run, keeps.
use Rattle.std.specs.Prelude.{◌≡◌, ℕ, List, Some}
use Rattle.std.specs.List.{AllByRecursion}
use Rattle.b67_model.specs.Common.{SessionJob, Program, IsAdmitted, Switch, Session, StepResult, next, after, IsInOrder, IsInOrderButPlaces}
use Rattle.b67_law.specs.Opening.{Opening, DeckWithin, opening}

-- the job runs an admitted program
pub record RunsAdmitted (m : SessionJob) : Type 0 where
  pub program : Program
  pub admitted : IsAdmitted program
  pub segments : m.constants.segments ≡ program.segments

-- each step of a session over admitted programs keeps it in order
abbrev pub SessionsStayInOrder : Type 0
SessionsStayInOrder =
    (s : Session) (m : StepResult) → IsInOrder s → AllByRecursion RunsAdmitted s.jobs → next s ≡ Some m →
    IsInOrder m.session × AllByRecursion RunsAdmitted m.session.jobs

-- over any code words each keeps all but the items on places
abbrev pub SessionsStayInOrderButPlaces : Type 0
SessionsStayInOrderButPlaces = (s : Session) (m : StepResult) → IsInOrderButPlaces s → next s ≡ Some m → IsInOrderButPlaces m.session

-- every state of the run of a deck within its limits, whose programs are admitted, is in order
abbrev pub RunsStayInOrder : Type 0
RunsStayInOrder =
    (n stack quantum : ℕ) (switches : List Switch) (openings : List Opening) → DeckWithin stack switches openings →
    IsInOrder (after n (opening stack quantum switches openings))
