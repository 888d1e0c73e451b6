-- How the run of a deck over core stops: with which status and text, after how many steps of the session that the deck
-- opens, and with which machine.
use Rattle.std.specs.Prelude.{◌≡◌, ◌≢◌, ℕ, ◌+◌, ◌<◌, ◌≤◌, ◌⊎◌, List, ◌++◌, length, Option, Some, None}
use Rattle.b67_io.specs.Line.{ended}
use Rattle.b67_io.specs.Causes.{Rose}
use Rattle.b67_model.specs.Common.{Task, SessionJob, need, run_text, IsInOrderButPlaces, Session, RunLine, StepResult, lines, after}
pub use Rattle.b67_model.specs.Common.{IsBeforeHalt, IsWithinHalt}
use Rattle.b67_exec_cells.specs.Running.{code_area}
use Rattle.b67_law.specs.Turns.{IsNext}
use Rattle.b67_session.specs.Passed.{IsLacking, IsShortAt, CodeFits}
pub use Rattle.b67_session.specs.Attempts.{TellsSectors, for_want, for_task, for_length}
use Rattle.b67_job.specs.Admitting.{Prepared}
pub use Rattle.b67_job.specs.Admitting.{run_of}
use Rattle.b67_session.specs.Decks.{deck_given, given_of}
use Rattle.b67_session.specs.Opens.{need_of, sectors_of_all}
use Rattle.b67_task.specs.declared.tables.Machine.{Machine}
pub use Rattle.b67_session.specs.Slices.{StandsAt, IsLimited}
pub use Rattle.b67_session.specs.Slices.{Between, TakesOn, MovesItsWants, IsOnward, by_a_step, in_a_turn, FollowEach, HasPaged, StopsThere, before_it, in_limit, StopsInStep, PagesByStep, goes_well, stops_in}
pub use Rattle.b67_session.specs.Stops.{Stop}
pub use Rattle.b67_session.specs.Slices.{IsOpen, RepresentsWithoutTasks, StepsFit}
pub use Rattle.b67_session.specs.Shaped.{IsShaped}
use Rattle.b67_session_lines.specs.Moments.{first_part, due as due_text}
use Rattle.b67_session_lines.specs.Stops.{Run}
use Rattle.b67_job.specs.Device.{Device, DeviceTells, Failed, DeviceUnchanged, known_now}
use Rattle.b67_job.specs.Lines.{no_core_line, backing_full_line, backing_fault_line, memory_text, summary, halted_text}
use Rattle.b67_job.specs.declared.summaries.Closing.{Closing}
use Rattle.b67_job.specs.Texts.{Text, whole_of, only, TookUpTo, PrintsAndAnswers}
use Rattle.b67_job.specs.States.{StatesInOrder, JobsRunApart}
use Rattle.b67_job.specs.Finishing.{RanByStep}
use Rattle.b67_layout.specs.Machine.{content_after}

-- lines of steps, and a last line
abbrev pub text_to : List RunLine → List ℕ → Text
text_to printed line = record { front = run_text printed; last = ended line }

-- ---- a run stops after so many steps

-- A run that set out from a session has come to another and has printed these lines. If its device told what the sectors
-- hold, that is the session after so many steps, these are their lines, and each job has run as it does alone. One that tells
-- nothing may give back other code and other numbers than were written.
pub record StandsAfter {B : Type 0} (d : Device B) (steps : ℕ) (first s : Session) (printed : List RunLine) : Type 0 where
  pub session : DeviceTells d → s ≡ after steps first
  pub lines_are : DeviceTells d → printed ≡ lines steps first
  pub apart : DeviceTells d → JobsRunApart steps first s printed

-- no task lives any more, and the halt isn't passed; the machine represents the session without a task, in order but for
-- places. An exercise has its line after the lines of the steps
pub record IsDone {B : Type 0} (d : Device B) (steps : ℕ) (r : Run) (closing : Closing) (k : Machine) (text : Text) : Type 0 where
  pub session : Session
  pub printed : List RunLine
  pub comes : StandsAfter d steps r.session session printed
  pub within : IsWithinHalt r steps
  pub rests : RepresentsWithoutTasks (known_now d) k session
  pub ordered : IsInOrderButPlaces session
  pub text_is : text ≡ record { front = run_text printed; last = summary closing k.tasks.made }

-- the machine represents the session to which the run came, of which this task makes the next step
pub record StopsInRun {B : Type 0} (d : Device B) (steps : ℕ) (first : Session) (k : Machine) : Type 0 where
  pub session : Session
  pub printed : List RunLine
  pub comes : StandsAfter d steps first session printed
  pub stands : StandsAt (known_now d) k session
  pub member : SessionJob
  pub task : Task
  pub next : IsNext session member task

-- the count of steps is that of the halt; where an image is asked for, that of the machine stands before the line of the halt
pub record IsHaltedAt {B : Type 0} (d : Device B) (steps : ℕ) (r : Run) (closing : Closing) (k : Machine) (text : Text) : Type 0 where
  pub stop : StopsInRun d steps r.session k
  pub halt : r.halt ≡ Some steps
  pub text_is : text ≡ record { front = run_text stop.printed; last = halted_text closing k }

-- the next step is due, and needs more core than there is
pub record WantsCore {B : Type 0} (d : Device B) (core steps : ℕ) (r : Run) (k : Machine) (text : Text) : Type 0 where
  pub stop : StopsInRun d steps r.session k
  pub due : IsBeforeHalt r steps
  pub exceeds : core < need core stop.session stop.member stop.task
  pub text_is : text ≡ text_to stop.printed (no_core_line (need core stop.session stop.member stop.task) core)

-- if the device told what its sectors hold, the machine lacks the segment or the array of the next step, or that step makes
-- an array longer or starts a task; core has room for its segment, and for the whole step if the segment is present
pub record LacksNext {B : Type 0} (d : Device B) (core steps : ℕ) (first : Session) (k : Machine) (stop : StopsInRun d steps first k) : Type 0 where
  pub lacks : DeviceTells d → IsLacking stop.stands.storage stop.stands.plan stop.member stop.task
  pub room : DeviceTells d → (need core stop.session stop.member stop.task ≤ core) ⊎ (code_area stop.stands.storage stop.stands.plan stop.member stop.task ≡ None)
  pub code : DeviceTells d → CodeFits core stop.session stop.member stop.task

-- the next step is due, and more sectors are told than the device has: those that the session takes, if no hole has room for
-- what the step wants or it starts a task, or those of the session that it makes if it makes an array longer; and more are
-- wanted than are free
pub record WantsSectors {B : Type 0} (d : Device B) (core steps : ℕ) (r : Run) (k : Machine) (text : Text) : Type 0 where
  pub stop : StopsInRun d steps r.session k
  pub due : IsBeforeHalt r steps
  pub sum : ℕ
  pub tells : TellsSectors (DeviceTells d) stop.stands.storage stop.stands.plan stop.session stop.member stop.task sum
  pub exceeds : d.sectors < sum
  pub absent : LacksNext d core steps r.session k stop
  pub wants : ℕ
  pub free : ℕ
  pub short : IsShortAt stop.stands.storage stop.stands.plan stop.session.jobs stop.member stop.task wants free
  pub text_is : text ≡ text_to stop.printed (backing_full_line sum d.sectors)

-- the next step is due, and the device failed
pub record IsCutOff {B : Type 0} (d : Device B) (core steps : ℕ) (r : Run) (k : Machine) (text : Text) : Type 0 where
  pub stop : StopsInRun d steps r.session k
  pub due : IsBeforeHalt r steps
  pub absent : LacksNext d core steps r.session k stop
  pub text_is : text ≡ text_to stop.printed backing_fault_line

-- ---- the printer failed in the text of a step

-- in the first part of the next step, which core has room for: the machine represents the session before that step
pub record IsCutInStep {B : Type 0} (d : Device B) (core steps : ℕ) (r : Run) (k : Machine) (text : Text) : Type 0 where
  pub stop : StopsInRun d steps r.session k
  pub due : IsBeforeHalt r steps
  pub room : DeviceTells d → need core stop.session stop.member stop.task ≤ core
  pub front : text.front ≡ run_text stop.printed
  pub last : DeviceTells d → text.last ≡ due_text stop.session
  pub begins : DeviceTells d → (rest : List ℕ) × (whole_of text ++ rest ≡ run_text (lines (steps + 1) r.session))

-- the lines of LIMIT of the last step that was counted: these lines are printed up to the step's first part
pub record AreLimitLines (steps : ℕ) (first s : Session) (printed : List RunLine) (text : Text) : Type 0 where
  pub before : ℕ
  pub counted : steps ≡ before + 1
  pub part : StepResult
  pub is_first : first_part (after before first) ≡ Some part
  pub session : s ≡ part.session
  pub lines_are : printed ≡ lines before first ++ part.lines
  pub last : text.last ≡ due_text part.session
  pub all : whole_of text ≡ run_text (lines steps first)

-- in these lines: the step is counted, and the machine represents the session between the step's two parts
pub record IsCutInLimit {B : Type 0} (d : Device B) (steps : ℕ) (r : Run) (k : Machine) (text : Text) : Type 0 where
  pub session : Session
  pub printed : List RunLine
  pub rest : StepResult
  pub limited : IsLimited (known_now d) k session rest
  pub within : IsWithinHalt r steps
  pub front : text.front ≡ run_text printed
  pub exact : DeviceTells d → AreLimitLines steps r.session session printed text

-- ---- the status and the text

-- core and device have room for the session that opens
abbrev pub RoomSuffices : {B : Type 0} → Device B → ℕ → Prepared → Type 0
RoomSuffices d core p = (need_of p.0 p.1 ≤ core) × (sectors_of_all p.0 p.1 ≤ d.sectors)

-- no session was opened: memory was refused, or core or the device has no room for it, and the device is as it was; or the
-- device failed
pub data StopsUnopened {B : Type 0} (d : Device B) (core : ℕ) (p : Prepared) (status : ℕ) (text : Text) : Type 0 where
  memory_refused : DeviceUnchanged d → status ≡ 9 → text ≡ only memory_text → StopsUnopened d core p status text
  opening_wants_core : DeviceUnchanged d → core < need_of p.0 p.1 → status ≡ 4 → text ≡ only (ended (no_core_line (need_of p.0 p.1) core)) → StopsUnopened d core p status text
  opening_wants_sectors : DeviceUnchanged d → need_of p.0 p.1 ≤ core → d.sectors < sectors_of_all p.0 p.1
      → status ≡ 5 → text ≡ only (ended (backing_full_line (sectors_of_all p.0 p.1) d.sectors)) → StopsUnopened d core p status text
  opening_fails : RoomSuffices d core p → Failed d → status ≡ 6 → text ≡ only (ended backing_fault_line) → StopsUnopened d core p status text

-- A machine was opened that represents the deck's first session over the device as it then was, in so many words of core. From
-- there each step was made over the core and the device that the one before left, up to this machine and the device as it is now
pub record PagedFromOpening {B : Type 0} (d : Device B) (core : ℕ) (p : Prepared) (k : Machine) : Type 0 where
  pub opened : Machine
  pub device : B
  pub known : DeviceTells d → d.holds device ≢ None
  pub stands : StandsAt (content_after d.before (d.holds device)) opened (run_of p).session
  pub none_made : opened.tasks.made ≡ 0
  pub core_size : length opened.cpu.core ≡ core
  pub steps : RanByStep d.holds opened k device d.new

-- A session was opened, for which there is room. Each state up to the count of the machine is in order; and if the device
-- told what its sectors hold, none of the steps up to there needed more words than core has. The machine has that core and
-- what the deck gave: its halt, its turns' length, its switches, and the names, limits and numbers of its jobs. Whatever the
-- device gave back, the machine represents some session. A slice may be called on it again, and its table of sectors has one
-- for each of the device.
pub record WasOpened {B : Type 0} (d : Device B) (core : ℕ) (p : Prepared) (k : Machine) : Type 0 where
  pub room : RoomSuffices d core p
  pub in_order : StatesInOrder k.tasks.made (run_of p).session
  pub fitted : DeviceTells d → StepsFit core k.tasks.made (run_of p).session
  pub core_size : length k.cpu.core ≡ core
  pub given : given_of k.tasks ≡ deck_given p.0
  pub shaped : IsShaped k
  pub goes_on : IsOpen d.now k
  pub sized : d.sectors_now + 1 ≡ length k.sectors.links
  pub paged : PagedFromOpening d core p k

-- after its steps it stopped so
pub data StopsOpened {B : Type 0} (d : Device B) (core steps : ℕ) (r : Run) (closing : Closing) (k : Machine) (status : ℕ) (text : Text) : Type 0 where
  all_end : status ≡ 0 → IsDone d steps r closing k text → StopsOpened d core steps r closing k status text
  halt_comes : status ≡ 3 → IsHaltedAt d steps r closing k text → StopsOpened d core steps r closing k status text
  step_wants_core : status ≡ 4 → WantsCore d core steps r k text → StopsOpened d core steps r closing k status text
  step_wants_sectors : status ≡ 5 → WantsSectors d core steps r k text → StopsOpened d core steps r closing k status text
  step_fails : status ≡ 6 → Failed d → IsCutOff d core steps r k text → StopsOpened d core steps r closing k status text

-- the printer was due to take the text of a step
abbrev pub IsPrintingNext : {B : Type 0} → Device B → ℕ → ℕ → Run → Machine → Text → Type 0
IsPrintingNext d core steps r k text = IsCutInStep d core steps r k text ⊎ IsCutInLimit d steps r k text

-- Steps stop and their text is printed, unless the printer fails, in what is due after them or in the text of a step. The
-- machine counts how many bytes of that are printed.
pub data StepsEnd {K B : Type 0} (taken : K → Option (List ℕ)) (faults : K → ℕ) (d : Device B) (core steps : ℕ) (r : Run) (closing : Closing) (k : Machine) (old new : K) (answer : ℕ) : Type 0 where
  steps_stop : (status : ℕ) (text : Text) → k.tasks.printed ≡ 0 → StopsOpened d core steps r closing k status text → PrintsAndAnswers taken faults old new status text answer
      → StepsEnd taken faults d core steps r closing k old new answer
  next_is_cut : (text : Text) → IsPrintingNext d core steps r k text → answer ≡ 8 → Rose faults old new → TookUpTo taken old new text k.tasks.printed
      → StepsEnd taken faults d core steps r closing k old new answer

-- ---- the run of a deck: its first step is the first that the machine counts

-- a run stops, with a machine exactly if a session was opened, and nothing of the next step is printed
pub data RunStops {B : Type 0} (d : Device B) (core : ℕ) (p : Prepared) (closing : Closing) (machine : Option Machine) (status : ℕ) (text : Text) : Type 0 where
  unopened : machine ≡ None → StopsUnopened d core p status text → RunStops d core p closing machine status text
  opened : (k : Machine) → machine ≡ Some k → WasOpened d core p k → k.tasks.printed ≡ 0 → StopsOpened d core k.tasks.made (run_of p) closing k status text → RunStops d core p closing machine status text

-- the printer was due to take the text of a step of it, and has taken so many bytes of that, as the machine counts
pub record IsPrintingStep {B : Type 0} (d : Device B) (core : ℕ) (p : Prepared) (machine : Option Machine) (text : Text) (count : ℕ) : Type 0 where
  pub left : Machine
  pub is : machine ≡ Some left
  pub opens : WasOpened d core p left
  pub counts : count ≡ left.tasks.printed
  pub cut : IsPrintingNext d core left.tasks.made (run_of p) left text

-- a run stops and its text is printed, unless the printer fails, in what is due after the steps or in the text of a step
pub data DeckRunEnds {K B : Type 0} (taken : K → Option (List ℕ)) (faults : K → ℕ) (d : Device B) (core : ℕ) (p : Prepared) (closing : Closing) (machine : Option Machine) (old new : K) (answer : ℕ) : Type 0 where
  run_stops : (status : ℕ) (text : Text) → RunStops d core p closing machine status text → PrintsAndAnswers taken faults old new status text answer
      → DeckRunEnds taken faults d core p closing machine old new answer
  step_is_cut : (text : Text) (count : ℕ) → IsPrintingStep d core p machine text count → answer ≡ 8 → Rose faults old new → TookUpTo taken old new text count
      → DeckRunEnds taken faults d core p closing machine old new answer
