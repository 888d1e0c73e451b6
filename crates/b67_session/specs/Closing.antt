-- A step in which a task ends by itself.
use Rattle.std.specs.Prelude.{◌≡◌, ℕ, ◌+◌, ◌==◌, ◌&&◌, not, Bool, true, false, List, filter, Option, Result, Ok, Err}
use Rattle.b67_word.specs.declared.faults.Ending.{Ending}
use Rattle.b67_word.specs.declared.faults.Failed.{Failed}
use Rattle.std.specs.List.{list_any}
use Rattle.b67_model.specs.Common.{run_text, StepResult, Session, IsInOrderButPlaces, Task, SessionJob}
use Rattle.b67_session_lines.specs.Parts.{TookRest, TookMore}
use Rattle.b67_task.specs.declared.tables.TaskState.{TaskState}
use Rattle.b67_task.specs.declared.tables.TaskState.TheVariants as states
use Rattle.b67_task.specs.declared.tables.TaskRow.{TaskRow}
use Rattle.b67_task.specs.declared.tables.Machine.{Machine}
use Rattle.b67_task.specs.Tables.{MachineRepresents}
use Rattle.b67_session.specs.Ends.{StandsInPlace}
use Rattle.b67_lemmas.specs.Lists.{Has}
use Rattle.b67_stack.specs.Represents.{Storage}
use Rattle.b67_layout.specs.Orders.{IsInOrderButCounts}
use Rattle.b67_layout.specs.Placement.{Placement}
use Rattle.b67_law.specs.Turns.{IsNext}
use Rattle.b67_task.specs.RowOf.{IsRowOf}
use Rattle.b67_task.specs.declared.counting.Chosen.{Chosen}
use Rattle.b67_task.specs.Counted.{choice_of}

-- the task of a number is among those that ended
abbrev pub is_dead_of : List (ℕ × Ending) → ℕ → Bool
is_dead_of dead n = list_any (λ (e : ℕ × Ending). e.0 == n) dead

-- whether a task in this state is ready once these have ended
abbrev pub ready_after : List (ℕ × Ending) → TaskState → Bool
ready_after dead states.Ready = true
ready_after dead (states.Awaits n) = is_dead_of dead n
ready_after dead (states.WaitsAt mark offset) = false

-- a row of a job's task that is left and ready then
abbrev pub left_ready : ℕ → List (ℕ × Ending) → TaskRow → Bool
left_ready job dead r = (r.job == job) && (not (is_dead_of dead r.number) && ready_after dead r.state)

-- numbers without some
abbrev pub others_of : List (ℕ × Ending) → List ℕ → List ℕ
others_of dead ns = filter (λ (n : ℕ). not (is_dead_of dead n)) ns

-- the rest of the lines was printed, the tasks have ended, with what is left of the session held as in this storage, and the
-- step is counted; or nothing has changed but how much of them is printed
abbrev pub Closes : {K : Type 0} → (K → Option (List ℕ)) → Storage → Option (List (List ℕ)) → Placement → Session → StepResult → Result (Unit {0}) Failed → Machine → Machine → K → K → Type 0
Closes taken x told plan s part (Ok done) old new paper paper' =
    TookRest taken paper paper' (run_text part.lines) old.tasks.printed × (new.tasks.printed ≡ 0) × (new.tasks.made ≡ old.tasks.made + 1) × StandsInPlace x told new plan s part.session
Closes taken x told plan s part (Err failed) old new paper paper' =
    TookMore taken paper paper' (run_text part.lines) old.tasks.printed new.tasks.printed × (new ≡ record old { tasks = record old.tasks { printed = new.tasks.printed } })

-- the machine represents some session in order but for counts, with a job of this number
pub record HasJobOf (k : Machine) (job : ℕ) : Type 0 where
  pub storage : Storage
  pub told : Option (List (List ℕ))
  pub plan : Placement
  pub session : Session
  pub member : SessionJob
  pub ordered : IsInOrderButCounts session
  pub stands : MachineRepresents storage told k plan session
  pub among : Has session.jobs member
  pub number : member.constants.number ≡ job

-- the machine represents a session in order, and the chosen row is that of the task that makes its next step
pub record StandsChosen (x : Storage) (told : Option (List (List ℕ))) (k : Machine) (plan : Placement) (s : Session) (m : SessionJob) (t : Task) (c : Chosen) : Type 0 where
  pub ordered : IsInOrderButPlaces s
  pub next : IsNext s m t
  pub chosen : next.chosen ≡ choice_of c
  pub stands : MachineRepresents x told k plan s
  pub row : IsRowOf plan s k.tasks.rows.items c.row m t

-- it does for some session
pub record ChoseSome (k : Machine) (c : Chosen) : Type 0 where
  pub storage : Storage
  pub told : Option (List (List ℕ))
  pub plan : Placement
  pub session : Session
  pub member : SessionJob
  pub task : Task
  pub stands : StandsChosen storage told k plan session member task c
