-- What a slice of a run answers, prints and leaves: a session of any jobs and tasks.
use Rattle.std.specs.Prelude.{◌≡◌, ◌≢◌, ℕ, ◌+◌, ◌<◌, ◌≤◌, ◌⊎◌, List, [], ◌∷◌, ◌++◌, length, take, Option, Some, None, Result, Ok, Err}
use Rattle.std.specs.Result.{IsOk}
use Rattle.b67_io.specs.Told.{Took}
use Rattle.b67_model.specs.declared.intrinsics.TheConstants.{PROCESS}
use Rattle.b67_model.specs.Common.{Task, Job, SessionJob, Line, Goes, step, need, run_text, IsInOrderButPlaces, Session, RunLine, StepResult, after, lines, live_tasks}
pub use Rattle.b67_model.specs.Common.{NextFits, StepsFit}
use Rattle.b67_session_lines.specs.Moments.{first_part, last_part, due}
use Rattle.b67_lemmas.specs.Lists.{Has}
use Rattle.b67_stack.specs.MachineView.{PagedObject}
use Rattle.b67_stack.specs.Represents.{Storage}
use Rattle.b67_layout.specs.Machine.{Says, content_after}
use Rattle.b67_layout.specs.Common.{Placement, machine_view, objects_gone}
use Rattle.b67_exec_cells.specs.Called.{called_in}
use Rattle.b67_exec_cells.specs.Running.{code_area}
use Rattle.b67_task.specs.Released.{HasHome}
use Rattle.b67_mcp.specs.Called.{HoldsOther}
use Rattle.b67_law.specs.Turns.{IsNext}
use Rattle.b67_task.specs.declared.tables.Tasks.{Tasks}
use Rattle.b67_task.specs.declared.tables.Machine.{Machine}
use Rattle.b67_task.specs.Tables.{MachineRepresents}
pub use Rattle.b67_task.specs.Runs.{Keeps}
use Rattle.b67_session.specs.AttemptPassed.{AreCountable, IsShortAt, CallsDevice}
use Rattle.b67_session.specs.Attempts.{IsLacking, WantsNothing, HoleFits, IsAtHand, UsesHole, KeepsAreas, AddsNoArea, CodeFits, TellsAfter, TellsSectors}
use Rattle.b67_session.specs.AttemptStops.{Stop}
use Rattle.b67_session.specs.Makes.{MakesEach}
use Rattle.b67_session.specs.AttemptStops as stops
use Rattle.b67_session.specs.Ends.{StandsForSession, LeavesInPlace}
pub use Rattle.b67_session.specs.Machines.{StandsAt, IsLimited, RepresentsWithoutTasks}
use Rattle.b67_session.specs.declared.slices.Progress.{Progress}
use Rattle.b67_session.specs.declared.slices.Progress.TheVariants as progress

-- ---- machines

-- the machine represents some session in order, over a device that tells this
pub record StandsSome (told : Option (List (List ℕ))) (k : Machine) : Type 0 where
  pub said : Option (List (List ℕ))
  pub says : Says said told
  pub session : Session
  pub stands : StandsAt said k session

-- for one of which a task makes the next step
pub record LivesOn (told : Option (List (List ℕ))) (k : Machine) : Type 0 where
  pub some : StandsSome told k
  pub member : SessionJob
  pub task : Task
  pub next : IsNext some.session member task

-- a slice of steps may begin: it represents some session in order, and each job's numbers can be counted
pub record SetsOutSome (told : Option (List (List ℕ))) (k : Machine) : Type 0 where
  pub stands : StandsSome told k
  pub countable : AreCountable k.tasks.jobs

-- a step is due: a task makes the next one, and the halt isn't reached
pub record IsStepDue (told : Option (List (List ℕ))) (k : Machine) : Type 0 where
  pub lives : LivesOn told k
  pub before_halt : k.tasks.halt ≢ Some k.tasks.made
  pub countable : AreCountable k.tasks.jobs

-- for some session whose last part is due
pub record StandsLimited (told : Option (List (List ℕ))) (k : Machine) : Type 0 where
  pub said : Option (List (List ℕ))
  pub says : Says said told
  pub session : Session
  pub part : StepResult
  pub limited : IsLimited said k session part

-- for some session in order that no task is left of
pub record HasNoTasks (told : Option (List (List ℕ))) (k : Machine) : Type 0 where
  pub said : Option (List (List ℕ))
  pub says : Says said told
  pub session : Session
  pub ordered : IsInOrderButPlaces session
  pub rests : RepresentsWithoutTasks said k session

-- a slice may be called: a task makes the next step, or some are to end by LIMIT, or none is left; and each job's numbers can be
-- counted
pub record IsOpen (told : Option (List (List ℕ))) (k : Machine) : Type 0 where
  pub stage : LivesOn told k ⊎ (StandsLimited told k ⊎ HasNoTasks told k)
  pub countable : AreCountable k.tasks.jobs

-- why a slice goes no further: no task lives, or the count of a halt is reached
abbrev pub Pauses : Tasks → Option ℕ → Option Progress → Type 0
Pauses tasks halt None = (tasks.rows.items ≢ []) × (halt ≢ Some tasks.made)
Pauses tasks halt (Some progress.Ended) = tasks.rows.items ≡ []
Pauses tasks halt (Some progress.Halted) = (tasks.rows.items ≢ []) × (halt ≡ Some tasks.made)
Pauses tasks halt (Some progress.More) = ⊥

-- ---- steps and their text

-- so many steps lead from a session to another and these are their lines: whole steps, or the last one but for LIMIT's part
pub data StepsReach (first : Session) (steps : ℕ) (s : Session) (printed : List RunLine) : Type 0 where
  in_whole_steps : after steps first ≡ s → lines steps first ≡ printed → StepsReach first steps s printed
  but_limit : (k : ℕ) (part : StepResult) → steps ≡ k + 1 → first_part (after k first) ≡ Some part → part.session ≡ s → last_part s ≢ None
      → lines k first ++ part.lines ≡ printed → StepsReach first steps s printed

-- Of the text that was due before, so many first bytes were printed before. What is printed now is the rest of the text of
-- these lines, and so many first bytes of the text that is due next.
pub record Prints {K : Type 0} (taken : K → Option (List ℕ)) (paper paper' : K) (was_due : List ℕ) (before : ℕ) (printed : List RunLine) (is_due : List ℕ) (now : ℕ) : Type 0 where
  pub text : List ℕ
  pub took : Took taken paper paper' text
  pub same : take before was_due ++ text ≡ run_text printed ++ take now is_due

-- whole texts were printed: nothing of the text that is due next, where steps were made; nothing at all, where none was
pub record PrintsWhole {K : Type 0} (steps : ℕ) (old new : Machine) (paper paper' : K) : Type 0 where
  pub some : 1 ≤ steps → new.tasks.printed ≡ 0
  pub none : steps ≡ 0 → (new.tasks.printed ≡ old.tasks.printed) × (paper' ≡ paper)

-- ---- core

-- the next step lacks its segment or its array, makes it longer, or starts a task. Core has room for its segment, and for the
-- whole step if the segment is present
pub record StepLacks (exact : Type 0) (core : ℕ) (x : Storage) (plan : Placement) (s : Session) (m : SessionJob) (t : Task) : Type 0 where
  pub lacks : exact → IsLacking x plan m t
  pub room : exact → (need core s m t ≤ core) ⊎ (code_area x plan m t ≡ None)
  pub code : exact → CodeFits core s m t

-- a device that is full or fails stops a step only where core has the words that it needs
abbrev pub StopsWithRoom : {A : Type 0} → ℕ → Session → SessionJob → Task → Result A Stop → Type 0
StopsWithRoom core s m t (Err (stops.BackingFull sum size)) = need core s m t ≤ core
StopsWithRoom core s m t (Err stops.BackingFault) = need core s m t ≤ core
StopsWithRoom core s m t _ = Unit {0}

-- the step goes on with this job: it ends no task, makes none wait, and doesn't bring its job to its limit
pub record GoesOnAlone (s : Session) (m : SessionJob) (t : Task) (job : Job) : Type 0 where
  pub printed : List Line
  pub touched : Option ℕ
  pub is : step m.constants m.progress.job t ≡ Ok (Goes job printed touched)
  pub below : (part : StepResult) → first_part s ≡ Some part → last_part part.session ≡ None

-- the machine represents the session after the next step, and every area that was there is where it was, as said of the step;
-- and none is new, if nothing was wanted
pub record StepKeepsAreas (x : Storage) (plan : Placement) (s : Session) (m : SessionJob) (t : Task) (job : Job) (new : Machine) : Type 0 where
  pub told : Option (List (List ℕ))
  pub storage : Storage
  pub placed : Placement
  pub stands : MachineRepresents storage told new placed (after 1 s)
  pub areas : KeepsAreas x storage plan placed m t job
  pub none_new : WantsNothing x plan m t → AddsNoArea x storage plan placed m t job

-- the step goes on with this job, whether that meets its limit or not
pub record GoesOnWith (m : SessionJob) (t : Task) (job : Job) : Type 0 where
  pub printed : List Line
  pub touched : Option ℕ
  pub is : step m.constants m.progress.job t ≡ Ok (Goes job printed touched)

-- it ends its task, or makes it wait
abbrev pub EndsOrWaits : SessionJob → Task → Type 0
EndsOrWaits m t = (job : Job) → GoesOnWith m t job → ⊥

-- a step that goes on leaves a record whose array has its original at this address, or something else is held there by its call
pub data HeldAnew (plan placed : Placement) (m : SessionJob) (t : Task) (home : ℕ) : Type 0 where
  of_record : (job : Job) → GoesOnWith m t job → HasHome (objects_gone plan m job) home → HeldAnew plan placed m t home
  by_call : (job : Job) → GoesOnWith m t job → HoldsOther plan placed m t job home → HeldAnew plan placed m t home

-- the session after the next step of a session, or that before its last part
pub data IsStepOf (s stepped : Session) : Type 0 where
  in_whole : after 1 s ≡ stepped → IsStepOf s stepped
  but_its_limit : (part : StepResult) → first_part s ≡ Some part → last_part part.session ≢ None → part.session ≡ stepped → IsStepOf s stepped

-- The machine represents the session after the next step, or for that before its last part where the printer failed in it. Each
-- array, segment and data row that is left is in the area where it was, or in none as before, but one that DEALLOCATE empties or
-- RESIZE gives another length, and one that is new; of PROCESS that isn't said. Where the step ends its task, or makes it wait,
-- each of them is one of those before, and is also in the same sectors
pub record StepLeaves (x : Storage) (plan : Placement) (s : Session) (m : SessionJob) (t : Task) (new : Machine) : Type 0 where
  pub told : Option (List (List ℕ))
  pub session : Session
  pub is : IsStepOf s session
  pub stands : StandsForSession told new session
  pub placed : Placement
  pub areas : called_in m t ≢ Some PROCESS → (u : PagedObject) → Has (machine_view stands.plan session.jobs).objects u → (HeldAnew plan placed m t u.home → ⊥)
      → (stands.storage.held u.home).area ≡ (x.held u.home).area
  pub ends : EndsOrWaits m t → LeavesInPlace x stands.storage plan stands.plan s session

-- The session's next step is looked at in a storage, where a slice of n steps sets out. Where its segment and its array are
-- present, and it makes no array longer and starts no task, a slice of one step doesn't call the device; where one of them is
-- absent and a hole has room for it, no sector is written, and too few free ones stop nothing. In both cases the areas stay
-- where they are if the step is made and goes on. Where both are present, all that is left after a step lies where it lay, also
-- after one that ends tasks, and a full device is told the sum after the step. Where its segment is present, the device stops it
-- only if core has room for it
pub record IfPresent {A D : Type 0} (holds : D → Option (List (List ℕ))) (exact : Type 0) (core n : ℕ) (x : Storage) (plan : Placement) (s : Session) (m : SessionJob) (t : Task) (answered : Result A Stop) (old new : Machine) (device device' : D) : Type 0 where
  pub quiet : n ≤ 1 → WantsNothing x plan m t → (CallsDevice m t → ⊥) → device' ≡ device
  pub hole : exact → n ≤ 1 → HoleFits x plan m t → (CallsDevice m t → ⊥) → UsesHole holds answered device device'
  pub areas : (job : Job) → n ≤ 1 → GoesOnAlone s m t job → IsAtHand x plan m t → new.tasks.made ≡ old.tasks.made + 1 → StepKeepsAreas x plan s m t job new
  pub left : n ≤ 1 → WantsNothing x plan m t → new.tasks.made ≡ old.tasks.made + 1 → StepLeaves x plan s m t new
  pub sum : n ≤ 1 → WantsNothing x plan m t → (sum size : ℕ) → answered ≡ Err (stops.BackingFull sum size) → TellsAfter s m t sum
  pub room : exact → code_area x plan m t ≢ None → new.tasks.made ≡ old.tasks.made → StopsWithRoom core s m t answered

-- ---- steps one by one

-- a machine over its device, on the way of a slice
pub record Between (D : Type 0) : Type 0 where
  pub machine : Machine
  pub device : D

-- so many steps were made of a session, in the same core. The machine represents the session after them, and it is known still what
-- the device's sectors hold. `exact` is as above
pub record ArrivesAt (told : Option (List (List ℕ))) (exact : Type 0) (steps : ℕ) (first : Session) (old new : Machine) : Type 0 where
  pub session : Session
  pub is : exact → after steps first ≡ session
  pub known : exact → told ≢ None
  pub stands : StandsAt told new session
  pub made : new.tasks.made ≡ old.tasks.made + steps
  pub core : length new.cpu.core ≡ length old.cpu.core

-- so it is of each session that the machine represents over the device
abbrev pub TakesOn : {D : Type 0} → (D → Option (List (List ℕ))) → ℕ → Machine → Machine → D → D → Type 0
TakesOn holds steps old new device device' =
    (told : Option (List (List ℕ))) (s : Session) → Says told (holds device) → StandsAt told old s → ArrivesAt (content_after told (holds device')) (told ≢ None) steps s old new

-- Its next step was tried. Where it wants nothing, or one thing for which a free part of core has room, it moved no more than that.
-- What it moves where areas have to go, where it starts a task or makes an array longer isn't said
abbrev pub MovesItsWants : {A D : Type 0} → (D → Option (List (List ℕ))) → Result A Stop → Machine → Machine → D → D → Type 0
MovesItsWants holds answered old new device device' =
    (told : Option (List (List ℕ))) (s : Session) (m : SessionJob) (t : Task) → Says told (holds device) → (h : StandsAt told old s) → IsNext s m t
    → IfPresent holds (told ≢ None) (length old.cpu.core) 1 h.storage h.plan s m t answered old new device device'

-- One step was made, which moved no more than it wants where that fits a free part. Or operators of a turn were made one after the
-- other, each as its row makes it, with what it touches in core; these are steps, they were counted then, and the device wasn't called
pub data IsOnward {D : Type 0} (holds : D → Option (List (List ℕ))) (old new : Machine) (device device' : D) : Type 0 where
  by_a_step : TakesOn holds 1 old new device device' → MovesItsWants {A = Unit {0}} holds (Ok tt) old new device device' → IsOnward holds old new device device'
  in_a_turn : (between : List Machine) (made : Machine) → MakesEach between old made → new ≡ record made { tasks = new.tasks }
      → TakesOn holds (length between) old new device device' → device' ≡ device → IsOnward holds old new device device'

-- each machine over its device follows from the one before; those between the first and the last are told from the last on
abbrev pub FollowEach : {D : Type 0} → (D → Option (List (List ℕ))) → List (Between D) → Machine → Machine → D → D → Type 0
FollowEach holds [] old new device device' = (new ≡ old) × (device' ≡ device)
FollowEach holds (b ∷ before) old new device device' = IsOnward holds b.machine new b.device device' × FollowEach holds before old b.machine device b.device

-- steps were made one by one, each over the core and the device that the one before left, and each moved no more than it wants where
-- that fits a free part
pub record HasPaged {D : Type 0} (holds : D → Option (List (List ℕ))) (old new : Machine) (device device' : D) : Type 0 where
  pub between : List (Between D)
  pub follow : FollowEach holds between old new device device'

-- The printer failed in the lines of LIMIT. The step was made but for these and the ends that they tell of, in the same core: the
-- machine represents the session after it, or that between its two parts. `exact` is as above
pub record ArrivesBetween (told : Option (List (List ℕ))) (exact : Type 0) (first : Session) (old new : Machine) : Type 0 where
  pub session : Session
  pub rest : StepResult
  pub limited : IsLimited told new session rest
  pub steps : ℕ
  pub few : steps ≤ 1
  pub made : new.tasks.made ≡ old.tasks.made + steps
  pub is : exact → (steps ≡ 1) × IsStepOf first session
  pub known : exact → told ≢ None
  pub core : length new.cpu.core ≡ length old.cpu.core

-- The next step of a session was stopped. It isn't made: the machine represents the session before it, and the count is the one
-- before, which is not that of the halt. Or the printer failed in its lines of LIMIT
pub data StopsThere (told : Option (List (List ℕ))) (exact : Type 0) (stop : Stop) (first : Session) (old new : Machine) : Type 0 where
  before_it : new.tasks.halt ≢ Some new.tasks.made → ArrivesAt told exact 0 first old new → StopsThere told exact stop first old new
  in_limit : stop ≡ stops.PrintFault → ArrivesBetween told exact first old new → StopsThere told exact stop first old new

-- so it is of each session that the machine represents over the device
abbrev pub StopsInStep : {D : Type 0} → (D → Option (List (List ℕ))) → Stop → Machine → Machine → D → D → Type 0
StopsInStep holds stop old new device device' =
    (told : Option (List (List ℕ))) (s : Session) → Says told (holds device) → StandsAt told old s → StopsThere (content_after told (holds device')) (told ≢ None) stop s old new

-- So it was; and after a stop, where a task lives, core and device hold the session before the step that was stopped, or where the
-- printer failed in that step, the one that it came to. It moved no more than it wants either, where that fits
pub data PagesByStep {A D : Type 0} (holds : D → Option (List (List ℕ))) (answered : Result A Stop) (old new : Machine) (device device' : D) : Type 0 where
  goes_well : IsOk answered → HasPaged holds old new device device' → PagesByStep holds answered old new device device'
  stops_in : (stop : Stop) → answered ≡ Err stop → new.tasks.rows.items ≢ [] → (last : Between D) → HasPaged holds old last.machine device last.device
      → StopsInStep holds stop last.machine new last.device device'
      → MovesItsWants {A = Unit {0}} holds (Err stop) last.machine new last.device device' → PagesByStep holds answered old new device device'

-- ---- what is answered

-- a slice of n steps stopped after so many of them, before one that was due: they are not all made, and the halt isn't
-- reached. The machine represents the session before that step, which this task makes
pub record StopsBefore (told : Option (List (List ℕ))) (n steps : ℕ) (s : Session) (new : Machine) : Type 0 where
  pub left : steps < n
  pub halt : new.tasks.halt ≢ Some new.tasks.made
  pub stands : StandsAt told new s
  pub member : SessionJob
  pub task : Task
  pub next : IsNext s member task

-- the machine represents the session, of which a task lives
abbrev pub StandsLive : Option (List (List ℕ)) → Session → Machine → Type 0
StandsLive said s new = StandsAt said new s × ((m : SessionJob) × (t : Task) × IsNext s m t)

-- how a slice of n steps ended after so many that led to a session, over a core of so many words and a device of so many
-- sectors, of which this is known. `exact` is whether anything was known of them at the start
abbrev pub SliceMeets : Option (List (List ℕ)) → Type 0 → ℕ → ℕ → ℕ → ℕ → Session → List ℕ → Result Progress Stop → Machine → Type 0
SliceMeets said exact core count n steps s is_due (Ok progress.Ended) new = RepresentsWithoutTasks said new s × IsInOrderButPlaces s
SliceMeets said exact core count n steps s is_due (Ok progress.Halted) new =
    (new.tasks.halt ≡ Some new.tasks.made) × StandsLive said s new
SliceMeets said exact core count n steps s is_due (Ok progress.More) new =
    (steps ≡ n) × (new.tasks.halt ≢ Some new.tasks.made) × StandsLive said s new
SliceMeets said exact core count n steps s is_due (Err (stops.NoCore words size)) new =
    (b : StopsBefore said n steps s new) × (words ≡ need core s b.member b.task) × (size ≡ core) × (core < words)
SliceMeets said exact core count n steps s is_due (Err (stops.BackingFull sum size)) new =
    (b : StopsBefore said n steps s new) × StepLacks exact core b.stands.storage b.stands.plan s b.member b.task
    × ((wants : ℕ) × (free : ℕ) × IsShortAt b.stands.storage b.stands.plan s.jobs b.member b.task wants free)
    × TellsSectors exact b.stands.storage b.stands.plan s b.member b.task sum × (size ≡ count) × (count < sum)
SliceMeets said exact core count n steps s is_due (Err stops.BackingFault) new =
    (b : StopsBefore said n steps s new) × StepLacks exact core b.stands.storage b.stands.plan s b.member b.task
SliceMeets said exact core count n steps s is_due (Err stops.PrintFault) new =
    (new.tasks.printed < length is_due)
    × (((b : StopsBefore said n steps s new) × (exact → need core s b.member b.task ≤ core)) ⊎ ((part : StepResult) × IsLimited said new s part))

-- so many steps that led to a session are those of the first one: these are their lines, core had the words that they need, and
-- these are the texts that were due before them and are due next
pub record AreStepsOf (core steps : ℕ) (first session : Session) (printed : List RunLine) (was_due is_due : List ℕ) (answered : Result Progress Stop) : Type 0 where
  pub leads : StepsReach first steps session printed
  pub ends : answered ≡ Ok progress.Ended → after steps first ≡ session
  pub fits : StepsFit core steps first
  pub was : was_due ≡ due first
  pub next : is_due ≡ due session

-- Where it is known what the device's sectors hold, the steps are those of the session from which the slice set out. Where
-- nothing is known, they are those of a machine that had some code and some numbers. None is made at the halt
pub record Slices {K : Type 0} (taken : K → Option (List ℕ)) (told : Option (List (List ℕ))) (exact : Type 0) (count n : ℕ) (first : Session) (answered : Result Progress Stop) (old new : Machine) (paper paper' : K) : Type 0 where
  pub steps : ℕ
  pub few : steps ≤ n
  pub below : (j : ℕ) → j < steps → old.tasks.halt ≢ Some (old.tasks.made + j)
  pub made : new.tasks.made ≡ old.tasks.made + steps
  pub session : Session
  pub printed : List RunLine
  pub was_due : List ℕ
  pub is_due : List ℕ
  pub its : exact → AreStepsOf (length old.cpu.core) steps first session printed was_due is_due answered
  pub prints : Prints taken paper paper' was_due old.tasks.printed printed is_due new.tasks.printed
  pub texts : answered ≢ Err stops.PrintFault → PrintsWhole steps old new paper paper'
  pub meets : SliceMeets told exact (length old.cpu.core) count n steps session is_due answered new

-- the printer has failed again in the lines of LIMIT: nothing has changed but how much of them is printed
pub record IsCutAgain {D K : Type 0} (taken : K → Option (List ℕ)) (h : Session) (answered : Result Progress Stop) (old new : Machine) (device device' : D) (paper paper' : K) : Type 0 where
  pub answer : answered ≡ Err stops.PrintFault
  pub only : new ≡ record old { tasks = record old.tasks { printed = new.tasks.printed } }
  pub proper : new.tasks.printed < length (due h)
  pub prints : Prints taken paper paper' (due h) old.tasks.printed [] (due h) new.tasks.printed
  pub backing : device' ≡ device

-- the rest of these lines was printed and the tasks have ended: a machine represents the session after the last part, and from
-- there a slice was made
pub record GoesOnAfter {D K : Type 0} (holds : D → Option (List (List ℕ))) (taken : K → Option (List ℕ)) (said said' : Option (List (List ℕ))) (count n : ℕ) (h : Session) (part : StepResult) (answered : Result Progress Stop) (old new : Machine) (device device' : D) (paper paper' : K) : Type 0 where
  pub middle : Machine
  pub printer : K
  pub stands : StandsAt said middle part.session
  pub made : middle.tasks.made ≡ old.tasks.made
  pub unprinted : middle.tasks.printed ≡ 0
  pub keeps : Keeps old middle
  pub prints : Prints taken paper printer (due h) old.tasks.printed part.lines [] 0
  pub slices : Slices taken said' (said ≢ None) count n part.session answered middle new printer paper'
  pub present : (g : StandsAt said middle part.session) (m : SessionJob) (t : Task) → IsNext part.session m t
      → IfPresent holds (said ≢ None) (length middle.cpu.core) n g.storage g.plan part.session m t answered middle new device device'
  pub pages : PagesByStep holds answered middle new device device'
  pub rests : live_tasks part.session.jobs ≡ 0 → device' ≡ device

-- from a session of which tasks are to end by LIMIT
abbrev pub Resumes : {D K : Type 0} → (D → Option (List (List ℕ))) → (K → Option (List ℕ)) → Option (List (List ℕ)) → Option (List (List ℕ)) → ℕ → ℕ → Session → StepResult → Result Progress Stop → Machine → Machine → D → D → K → K → Type 0
Resumes holds taken said said' count n h part answered old new device device' paper paper' =
    IsCutAgain taken h answered old new device device' paper paper' ⊎ GoesOnAfter holds taken said said' count n h part answered old new device device' paper paper'

-- of a session without a task nothing is made, printed or changed
pub record StaysEnded {D K : Type 0} (answered : Result Progress Stop) (old new : Machine) (device device' : D) (paper paper' : K) : Type 0 where
  pub answer : answered ≡ Ok progress.Ended
  pub machine : new ≡ old
  pub backing : device' ≡ device
  pub printer : paper' ≡ paper
