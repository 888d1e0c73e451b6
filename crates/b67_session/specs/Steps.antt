-- What a step of a session answers, prints and leaves.
use Rattle.std.specs.Prelude.{◌≡◌, ◌≢◌, ℕ, ◌+◌, ◌≤◌, List, [], length, Option, Some, None, Result, Ok, Err}
use Rattle.b67_session_lines.specs.Moments.{first_part, last_part, due}
use Rattle.b67_model.specs.Common.{RunLine, StepResult, next, after, lines, Session}
use Rattle.b67_stack.specs.Represents.{Storage}
use Rattle.b67_stack.specs.declared.Step.{Step}
use Rattle.b67_layout.specs.Placement.{Placement}
use Rattle.b67_task.specs.declared.tables.Machine.{Machine}
use Rattle.b67_session.specs.AttemptStops.{Stop}
use Rattle.b67_session.specs.AttemptStops as stops
use Rattle.b67_word.specs.declared.faults.Failed.{Failed}
use Rattle.b67_session.specs.Ends.{Finishes}
use Rattle.b67_task.specs.Lasting.{BeforeHalt}
use Rattle.b67_task.specs.declared.counting.Chosen.{Chosen}
use Rattle.b67_session.specs.Makes.{MakesEach}
use Rattle.b67_session.specs.Slices.{StandsAt, Prints, PrintsWhole, NextFits, StepsFit, SliceMeets}

-- the task that was chosen, of these parts
abbrev pub chosen_of : (row job number turn : ℕ) → Chosen
chosen_of row job number turn = record { row = row; job = job; number = number; turn = turn }

-- a whole step leads from a session to another, and these are its lines
pub record StepGives (s after : Session) (printed : List RunLine) : Type 0 where
  pub moment : StepResult
  pub is : next s ≡ Some moment
  pub session : moment.session ≡ after
  pub lines_are : moment.lines ≡ printed

-- no step does, a whole one, or one but for LIMIT's part
pub data StepLeads (s : Session) (steps : ℕ) (after : Session) (printed : List RunLine) : Type 0 where
  stays : steps ≡ 0 → after ≡ s → printed ≡ [] → StepLeads s steps after printed
  makes : steps ≡ 1 → StepGives s after printed → StepLeads s steps after printed
  halves : (part : StepResult) → steps ≡ 1 → first_part s ≡ Some part → part.session ≡ after → last_part after ≢ None → part.lines ≡ printed → StepLeads s steps after printed

-- how a step ended that led from a session to another, over a core of so many words and a device of so many sectors, of
-- which this is known. One that stopped ends as a slice of one step. `exact` is whether anything was known of them at the
-- start
abbrev pub StepMeets : Option (List (List ℕ)) → Type 0 → ℕ → ℕ → ℕ → Session → Session → List RunLine → List ℕ → Result (Unit {0}) Stop → Machine → Type 0
StepMeets said exact core count steps was s printed is_due (Ok done) new = (steps ≡ 1) × (exact → StepGives was s printed) × StandsAt said new s
StepMeets said exact core count steps was s printed is_due (Err stop) new = SliceMeets said exact core count 1 steps s is_due (Err stop) new

-- Where it is known what the device's sectors hold, the step is that of the session. Where nothing is known, it is that of
-- a session with some other code and some other numbers.
pub record Steps {K : Type 0} (taken : K → Option (List ℕ)) (told : Option (List (List ℕ))) (exact : Type 0) (count : ℕ) (s : Session) (answered : Result (Unit {0}) Stop) (old new : Machine) (paper paper' : K) : Type 0 where
  pub was : Session
  pub same : exact → was ≡ s
  pub steps : ℕ
  pub few : steps ≤ 1
  pub session : Session
  pub printed : List RunLine
  pub made : new.tasks.made ≡ old.tasks.made + steps
  pub leads : exact → StepLeads was steps session printed
  pub fits : exact → 1 ≤ steps → NextFits (length old.cpu.core) s
  pub was_due : List ℕ
  pub is_due : List ℕ
  pub was_is : exact → was_due ≡ due was
  pub next_is : exact → is_due ≡ due session
  pub prints : Prints taken paper paper' was_due old.tasks.printed printed is_due new.tasks.printed
  pub texts : answered ≢ Err stops.PrintFault → PrintsWhole steps old new paper paper'
  pub meets : StepMeets told exact (length old.cpu.core) count steps was session printed is_due answered new

-- ---- the last part

-- what a call answers whose printer failed, or didn't
abbrev pub StopOf : Result (Unit {0}) Failed → Result (Unit {0}) Stop → Type 0
StopOf (Ok done) answered = answered ≡ Ok tt
StopOf (Err failed) answered = answered ≡ Err stops.PrintFault

-- the last part of a step of a session, where one is due
pub record EndsStep {K : Type 0} (taken : K → Option (List ℕ)) (x : Storage) (told : Option (List (List ℕ))) (plan : Placement) (h : Session) (answered : Result (Unit {0}) Stop) (old new : Machine) (paper paper' : K) : Type 0 where
  pub result : Result (Unit {0}) Failed
  pub finishes : Finishes taken x told plan h (last_part h) result old new paper paper'
  pub answer : StopOf result answered

-- ---- a turn that goes on

-- the machine represents some session in order
pub record IsInOrderFor (k : Machine) : Type 0 where
  pub said : Option (List (List ℕ))
  pub session : Session
  pub stands : StandsAt said k session

-- operators of a turn were made one after the other, and then counted
pub record MadeInOrder (made : ℕ) (old new : Machine) : Type 0 where
  pub between : List Machine
  pub count : length between ≡ made
  pub last : Machine
  pub each : MakesEach between old last
  pub counted : new ≡ record last { tasks = new.tasks }

-- so many operators of a turn were made, of those that were asked for: none where none was. The turn is longer by them, and where all
-- were made there is no other reason why it stops
pub record CountsTurn (asked made : ℕ) (old new : Machine) (before after : Step) : Type 0 where
  pub few : made ≤ asked
  pub rests : asked ≡ 0 → new ≡ old
  pub turn : new.tasks.turn ≡ old.tasks.turn + made
  pub all : made ≡ asked → after ≡ before
  pub order : MadeInOrder made old new

-- so many steps lead from a session to another, and a run that comes to the first one prints no more in them; core had the words
-- that they need, and the halt wasn't reached before them
pub record GoesOnInTurn (told : Option (List (List ℕ))) (steps : ℕ) (first : Session) (old new : Machine) : Type 0 where
  pub session : Session
  pub leads : after steps first ≡ session
  pub silent : (start : Session) (n : ℕ) → after n start ≡ first → lines (n + steps) start ≡ lines n start
  pub stands : StandsAt told new session
  pub made : new.tasks.made ≡ old.tasks.made + steps
  pub unprinted : new.tasks.printed ≡ 0
  pub fits : StepsFit (length old.cpu.core) steps first
  pub below : BeforeHalt old.tasks.halt old.tasks.made steps
