-- What a search through the run of a session finds.
use Rattle.std.specs.Prelude.{◌≡◌, ◌≢◌, ℕ, ◌+◌, ◌<◌, ◌≤◌, ◌⊎◌, List, Option, Some, None, Result, Err}
use Rattle.b67_io.specs.declared.free.Tally.{Tally}
use Rattle.b67_io.specs.Free.{tally_told}
use Rattle.b67_lemmas.specs.Lists.{Has}
use Rattle.b67_model.specs.Common.{Task, SessionJob, Session, Choice, choice, after, height, below_top}
use Rattle.b67_law.specs.Turns.{IsNext}
use Rattle.b67_task.specs.declared.tables.Tasks.{Tasks}
use Rattle.b67_task.specs.declared.tables.Machine.{Machine}
use Rattle.b67_io.specs.Causes.{Rose}
use Rattle.b67_layout.specs.Machine.{DeviceAfterCalls}
use Rattle.b67_session.specs.AttemptStops.{Stop}
use Rattle.b67_session.specs.AttemptStops as stops
use Rattle.b67_session.specs.Slices.{IsOpen, Keeps, Slices, StepsFit}
use Rattle.b67_session.specs.Complete.{IsToMake}
use Rattle.b67_session.specs.declared.seeking.CodePlace.{CodePlace}
use Rattle.b67_session.specs.declared.seeking.Depth.{Depth}
use Rattle.b67_session.specs.declared.seeking.Sought.{Sought}
use Rattle.b67_session.specs.declared.seeking.Sought.TheVariants as sought

-- where a task stands: its job, the displacement of its segment in the dictionary, and the place of its next operator
abbrev pub stands_at : SessionJob → Task → CodePlace
stands_at m t = record { job = m.constants.number; segment = t.segment + 1; place = t.place }

-- how high a task's topmost mark stands, in words from the base of its stack
abbrev pub mark_height : Task → ℕ
mark_height t = height (below_top t.frames)

-- what is sought of the operator that is about to be made: it stands at one of these places; another task makes it than made the
-- one before; or this task makes it, and its topmost mark stands so high or lower. No session is the deepest by itself
abbrev pub IsSought : Sought → List CodePlace → Session → Type 0
IsSought sought.Place places s = (m : SessionJob) × (t : Task) × IsNext s m t × Has places (stands_at m t)
IsSought sought.Switch places s = (c : Choice) × (choice s ≡ Some c) × (c.who ≢ s.last)
IsSought (sought.Within job number upto) places s =
    (m : SessionJob) × (t : Task) × IsNext s m t × (m.constants.number ≡ job) × (t.number ≡ number) × (mark_height t ≤ upto)
IsSought sought.Deepest places s = ⊥

-- after so many steps a task makes the next operator, and no task that does so at a count that is looked at has a higher stack
pub record IsDeepest (looked : ℕ → Type 0) (s : Session) (n : ℕ) : Type 0 where
  pub member : SessionJob
  pub task : Task
  pub next : IsNext (after n s) member task
  pub highest : (k : ℕ) (m : SessionJob) (t : Task) → looked k → IsNext (after k s) m t → height t.frames ≤ height task.frames

-- what is sought holds after so many steps, among the counts that are looked at
abbrev pub HoldsAmong : Sought → List CodePlace → (ℕ → Type 0) → Session → ℕ → Type 0
HoldsAmong sought.Deepest places looked s n = IsDeepest looked s n
HoldsAmong what places looked s n = IsSought what places (after n s)

-- a count of operators that a search looks at: this one or a later one, after which a run of at most so many makes one more
pub record IsSearched (from most : ℕ) (tasks : Tasks) (n : ℕ) : Type 0 where
  pub later : from ≤ n
  pub made : IsToMake most tasks n

-- the least of the counts that are looked at for which what is sought holds after so many steps, or that there is none
abbrev pub FindsLeast : Sought → List CodePlace → (ℕ → Type 0) → Session → Option ℕ → Type 0
FindsLeast what places looked s (Some n) = looked n × HoldsAmong what places looked s n × ((k : ℕ) → looked k → HoldsAmong what places looked s k → n ≤ k)
FindsLeast what places looked s None = (k : ℕ) → looked k → HoldsAmong what places looked s k → ⊥

-- core has the words of each step that a task makes at a count that is looked at, and of all before it
abbrev pub PassesAll : ℕ → (ℕ → Type 0) → Session → Type 0
PassesAll core looked s = (k : ℕ) (m : SessionJob) (t : Task) → looked k → IsNext (after k s) m t → StepsFit core (k + 1) s

-- Core has the words of the steps that come before what is found. Where nothing is, or the deepest is sought, it has those of all
-- that are looked at
pub record ComesTo (what : Sought) (core : ℕ) (looked : ℕ → Type 0) (s : Session) (found : Option ℕ) : Type 0 where
  pub before : (n : ℕ) → found ≡ Some n → StepsFit core n s
  pub all : (what ≡ sought.Deepest) ⊎ (found ≡ None) → PassesAll core looked s

-- a search stops where the run does, a slice of at most so many steps, and by that stop; and up to there nothing was found. Of the
-- deepest this says no more
pub record StopsUnfound (told : Option (List (List ℕ))) (exact : Type 0) (count : ℕ) (what : Sought) (places : List CodePlace) (from most : ℕ) (s : Session) (stop : Stop) (old new : Machine) : Type 0 where
  pub paper : Tally
  pub paper' : Tally
  pub slices : Slices tally_told told exact count most s (Err stop) old new paper paper'
  pub none : (k : ℕ) → k ≤ slices.steps → IsSearched from most old.tasks k → IsSought what places (after k s) → ⊥

-- What a search leaves, whatever it answers: a slice may be asked for; the machine's size and what the deck gave are as they were, and
-- the device is as calls leave it. It stops by a failure only where the device failed, since it prints nothing
pub record SearchLeaves {A D : Type 0} (holds : D → Option (List (List ℕ))) (size calls faults : D → ℕ) (answered : Result A Stop) (old new : Machine) (device device' : D) : Type 0 where
  pub goes_on : IsOpen (holds device') new
  pub keeps : Keeps old new
  pub served : DeviceAfterCalls holds size calls faults device device'
  pub device_failed : answered ≡ Err stops.BackingFault → Rose faults device device'
  pub unprinted : answered ≢ Err stops.PrintFault

-- ---- on the way

-- of the counts from one up to another, the least at which the stack of the task that makes the next operator is the highest
pub record IsDeepestSoFar (from upto : ℕ) (s : Session) (d : Depth) : Type 0 where
  pub later : from ≤ d.made
  pub before : d.made < upto
  pub member : SessionJob
  pub task : Task
  pub next : IsNext (after d.made s) member task
  pub high : d.top + 1 ≡ height task.frames
  pub highest : (k : ℕ) (m : SessionJob) (t : Task) → from ≤ k → k < upto → IsNext (after k s) m t → height t.frames ≤ d.top + 1
  pub first : (k : ℕ) (m : SessionJob) (t : Task) → from ≤ k → k < d.made → IsNext (after k s) m t → height t.frames ≤ d.top

-- none is known where no task makes an operator at such a count
abbrev pub DeepestSoFar : ℕ → ℕ → Session → Option Depth → Type 0
DeepestSoFar from upto s None = (k : ℕ) (m : SessionJob) (t : Task) → from ≤ k → k < upto → IsNext (after k s) m t → ⊥
DeepestSoFar from upto s (Some d) = IsDeepestSoFar from upto s d

-- what a search for the deepest has noted of the counts up to one; any other search notes nothing
pub record HasNoted (what : Sought) (from upto : ℕ) (s : Session) (best : Option Depth) : Type 0 where
  pub deepest : what ≡ sought.Deepest → DeepestSoFar from upto s best
  pub other : what ≢ sought.Deepest → best ≡ None

-- the higher of two, and of two that are as high the first
abbrev pub Deepens : Option Depth → Depth → Option Depth → Type 0
Deepens None seen best = best ≡ Some seen
Deepens (Some d) seen best = ((d.top < seen.top) × (best ≡ Some seen)) ⊎ ((seen.top ≤ d.top) × (best ≡ Some d))

-- so many operators were made: from one count on, up to another, or none where that isn't later
pub record CountsOn (next most made : ℕ) : Type 0 where
  pub on : next ≤ made
  pub few : next ≤ most → made ≤ most
  pub none : most ≤ next → made ≡ next

-- a search that begins at a session passes the counts from one up to another: nothing that is sought is among them, and all that is
-- to be noted of them is
pub record PassesBy (what : Sought) (places : List CodePlace) (from at upto : ℕ) (start : Session) (best best' : Option Depth) : Type 0 where
  pub none : (j : ℕ) → from ≤ j → at ≤ j → j < upto → IsSought what places (after j start) → ⊥
  pub noted : HasNoted what from at start best → HasNoted what from upto start best'
