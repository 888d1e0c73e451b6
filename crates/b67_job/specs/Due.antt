-- What a call of the program is due to answer and to print, by its cause.
use Rattle.std.specs.Prelude.{ℕ, ◌≡◌, ◌+◌, ◌<◌, ◌≤◌, ◌⊎◌, true, false, List, ◌++◌, length, codes, Option, Some, None, Result, Ok, Err, is_some}
use denote.Ref.{Bor}
use Rattle.b67_io.specs.Line.{ended}
use Rattle.b67_io.specs.Told.{Gave, GaveAll}
use Rattle.b67_io.specs.Causes.{Rose, Stayed}
use Rattle.b67_model_text.specs.Deck.{limit}
use Rattle.b67_model.specs.Common.{Task, SessionJob, need_next, after, Session}
use Rattle.b67_law.specs.Turns.{IsNext}
use Rattle.b67_task.specs.declared.tables.Machine.{Machine}
use Rattle.b67_job.specs.declared.refusal.Refusal.{Refusal}
use Rattle.b67_job.specs.declared.admit_fault.AdmitFault.{AdmitFault}
use Rattle.b67_job.specs.declared.admit_fault.AdmitFault.TheVariants as admits
use Rattle.b67_job.specs.Admitting.{Prepared}
use Rattle.b67_job.specs.CommandMeets.{IsJudged}
pub use Rattle.b67_job.specs.Told.{reading_text}
use Rattle.b67_job.specs.Told.{refusal_text}
use Rattle.b67_job.specs.Verdicts.{Verdict}
use Rattle.b67_session_lines.specs.Ends.{EndsPrinting}
use Rattle.b67_session.specs.Slices.{StandsAt}
use Rattle.b67_session.specs.Passed.{TakesSectors}
use Rattle.b67_session_lines.specs.Stops.{Run, IsFinished, IsHalted, halted_line}
use Rattle.b67_session.specs.Opens.{need_of, sectors_of_all}
use Rattle.b67_job.specs.Device.{Device, DeviceTells, Failed, DeviceUnchanged}
use Rattle.b67_job.specs.Lines.{no_core_line, backing_full_line, backing_fault_line, memory_text, refused_image_line}
use Rattle.b67_job.specs.declared.summaries.Closing.{Closing}
use Rattle.b67_job.specs.declared.summaries.Closing.TheVariants as closings
use Rattle.b67_job.specs.Texts.{Text, only, TookUpTo, PrintsAndAnswers}
use Rattle.b67_job.specs.Runs.{run_of, IsBeforeHalt, IsDone, IsHaltedAt, WantsCore, WantsSectors, IsCutOff, RoomSuffices, PagedFromOpening, WasOpened, RunStops, DeckRunEnds, IsPrintingStep}
use Rattle.b67_job.specs.Going.{run_from, PlainEnd, IsImageOf, PagedFrom, Resumed}
use Rattle.b67_job.specs.Command.{command_line_of}
use Rattle.b67_job.specs.declared.command.CommandLine.{CommandLine}
use Rattle.b67_job.specs.declared.command.CommandLine.TheVariants as lines
use Rattle.b67_job.specs.Judgement.{Judgement, Refused, Runs, Prints, OfImage, judgement, asked, core_asked, closing_of, reads_text, reads_deck, image_sectors}
use Rattle.b67_gen.specs.Generated.{generated_text}
use Rattle.b67_dump.specs.Dump.{dump_text}
use Rattle.b67_dump.specs.Analysed.{ForEachShown}
use Rattle.b67_image.specs.Meaning.{told_in, IsMeant, IsImageRead}
use Rattle.b67_image.specs.declared.fault.ImageFault.{ImageFault}
use Rattle.b67_image.specs.declared.fault.ImageFault.TheVariants as images

abbrev pub usage_text : List ℕ
usage_text = ended (codes "USAGE: b67 run --core N --backing PATH")

-- the command read these bytes of its source, which are all; an exercise reads nothing
abbrev pub ReadAll : {S : Type 0} → CommandLine → (S → Option (List ℕ)) → S → S → List ℕ → Type 0
ReadAll (lines.Exercise seed size core) left deck deck' bytes = deck' ≡ deck
ReadAll _ left deck deck' bytes = GaveAll left deck deck' bytes

-- these bytes were given: all that there were, or one more than a deck may have
abbrev pub WasGiven : {S : Type 0} → (S → Option (List ℕ)) → S → S → List ℕ → Type 0
WasGiven left deck deck' bytes = GaveAll left deck deck' bytes ⊎ (Gave left deck deck' bytes × (length bytes ≡ limit + 1))

-- the command read them; an exercise reads nothing
abbrev pub CommandWasRead : {S : Type 0} → CommandLine → (S → Option (List ℕ)) → S → S → List ℕ → Type 0
CommandWasRead (lines.Exercise seed size core) left deck deck' bytes = deck' ≡ deck
CommandWasRead _ left deck deck' bytes = WasGiven left deck deck' bytes

-- the words ask for a run over so much core, of a deck that was read to its end or of an exercise, and the deck is this one
-- with these programs
pub record IsRun {S : Type 0} (words : List (Bor (List ℕ))) (left : S → Option (List ℕ)) (deck deck' : S) (core : ℕ) (p : Prepared) : Type 0 where
  pub command : CommandLine
  pub bytes : List ℕ
  pub is : command_line_of words ≡ Some command
  pub opens : core_asked command ≡ Some core
  pub read : ReadAll command left deck deck' bytes
  pub judged : asked command bytes ≡ Runs p

-- the words ask for `dump`, and the source gave an image to its end, with any number of sectors; this is the dump of each session
-- that its machine represents
pub record IsDumpOf {S : Type 0} (words : List (Bor (List ℕ))) (left : S → Option (List ℕ)) (faults : S → ℕ) (deck deck' : S) (image : Machine) (dump : List ℕ) : Type 0 where
  pub is : command_line_of words ≡ Some lines.Dump
  pub read : IsImageRead left faults deck deck' None (Ok image)
  pub dumps : ForEachShown image (λ s. dump ≡ dump_text s)

-- The status, the text and the machine that are due, by their cause. The device is as it was unless a session was opened or
-- its opening failed.
pub data IsDue {S B : Type 0} (words : List (Bor (List ℕ))) (left : S → Option (List ℕ)) (faults : S → ℕ) (deck deck' : S) (d : Device B) (machine : Option Machine) (status : ℕ) (text : Text) : Type 0 where
  usage_due : is_some (command_line_of words) ≡ false → deck' ≡ deck → DeviceUnchanged d → machine ≡ None
      → status ≡ 1 → text ≡ only usage_text → IsDue words left faults deck deck' d machine status text
  refusal_due : (command : CommandLine) (bytes : List ℕ) (refusal : Refusal) → command_line_of words ≡ Some command → CommandWasRead command left deck deck' bytes → DeviceUnchanged d
      → asked command bytes ≡ Refused refusal → machine ≡ None → status ≡ 2 → text ≡ only (refusal_text refusal) → IsDue words left faults deck deck' d machine status text
  print_due : (command : CommandLine) (bytes printed : List ℕ) → command_line_of words ≡ Some command → ReadAll command left deck deck' bytes → DeviceUnchanged d
      → asked command bytes ≡ Prints printed → machine ≡ None → status ≡ 0 → text ≡ only printed → IsDue words left faults deck deck' d machine status text
  image_due : (command : CommandLine) (sectors : Option ℕ) (card reason : ℕ) → command_line_of words ≡ Some command → image_sectors d.sectors command ≡ Some sectors
      → IsImageRead left faults deck deck' sectors (Err (images.Card card reason)) → DeviceUnchanged d → machine ≡ None → status ≡ 2 → text ≡ only (ended (refused_image_line card reason)) → IsDue words left faults deck deck' d machine status text
  dump_due : (image : Machine) (dump : List ℕ) → IsDumpOf words left faults deck deck' image dump → DeviceUnchanged d
      → machine ≡ None → status ≡ 0 → text ≡ only dump → IsDue words left faults deck deck' d machine status text
  run_due : (core : ℕ) (p : Prepared) → IsRun words left deck deck' core p → RunStops d core p (closing_of (command_line_of words)) machine status text → IsDue words left faults deck deck' d machine status text
  reading_due : reads_text (command_line_of words) ≡ true → Rose faults deck deck' → DeviceUnchanged d → machine ≡ None
      → status ≡ 7 → text ≡ only reading_text → IsDue words left faults deck deck' d machine status text
  memory_due : is_some (command_line_of words) ≡ true → DeviceUnchanged d → machine ≡ None → status ≡ 9 → text ≡ only memory_text → IsDue words left faults deck deck' d machine status text

-- what was due, and how the call ended. A printer may also fail in the text of a step. What is due of a run that goes on from an
-- image is said of each session that this represents
pub data Answered {S B K : Type 0} (words : List (Bor (List ℕ))) (left : S → Option (List ℕ)) (source_faults : S → ℕ) (deck deck' : S) (d : Device B) (machine : Option Machine)
    (taken : K → Option (List ℕ)) (printer_faults : K → ℕ) (old new : K) (answer : ℕ) : Type 0 where
  answered : (status : ℕ) (text : Text) → IsDue words left source_faults deck deck' d machine status text → PrintsAndAnswers taken printer_faults old new status text answer
      → Answered words left source_faults deck deck' d machine taken printer_faults old new answer
  cut_in_step : (core : ℕ) (p : Prepared) (text : Text) (count : ℕ) → IsRun words left deck deck' core p → IsPrintingStep d core p machine text count
      → answer ≡ 8 → Rose printer_faults old new → TookUpTo taken old new text count → Answered words left source_faults deck deck' d machine taken printer_faults old new answer
  goes_on : Resumed words left source_faults deck deck' d machine (PlainEnd taken printer_faults old new answer) → Answered words left source_faults deck deck' d machine taken printer_faults old new answer

-- how a call ends that carries out a command
abbrev pub Serves : {S B K : Type 0} → CommandLine → (S → Option (List ℕ)) → (S → ℕ) → S → S → Device B → Option Machine → (K → Option (List ℕ)) → (K → ℕ) → K → K → ℕ → Type 0
Serves command left source_faults deck deck' d machine taken printer_faults old new answer =
    (words : List (Bor (List ℕ))) → command_line_of words ≡ Some command → Answered words left source_faults deck deck' d machine taken printer_faults old new answer

-- the command runs the deck that it reads, over so many words of core, and prints this besides its lines
pub record RunsWhatItReads (command : CommandLine) (core : ℕ) (closing : Closing) : Type 0 where
  pub reads : reads_deck command ≡ true
  pub opens : core_asked command ≡ Some core
  pub asks : (text : List ℕ) → asked command text ≡ judgement text
  pub closes : closing_of (Some command) ≡ closing

-- how an exercise ends: its deck is refused, or runs, unless memory is refused for it
pub data ExerciseEnds {B K : Type 0} (seed size core : ℕ) (d : Device B) (machine : Option Machine) (taken : K → Option (List ℕ)) (faults : K → ℕ) (old new : K) (answer : ℕ) : Type 0 where
  exercise_wants_memory : DeviceUnchanged d → machine ≡ None → EndsPrinting taken faults old new 9 memory_text answer → ExerciseEnds seed size core d machine taken faults old new answer
  exercise_is_refused : (refusal : Refusal) → judgement (generated_text seed size) ≡ Refused refusal → DeviceUnchanged d → machine ≡ None → EndsPrinting taken faults old new 2 (refusal_text refusal) answer
      → ExerciseEnds seed size core d machine taken faults old new answer
  exercise_runs : (p : Prepared) → judgement (generated_text seed size) ≡ Runs p → DeckRunEnds taken faults d core p (closings.Exercise (record { seed = seed; size = size })) machine old new answer
      → ExerciseEnds seed size core d machine taken faults old new answer

-- ---- the causes of a status

-- this machine is left, of whose next step nothing is printed
abbrev pub LeavesMachine : Option Machine → (Machine → Type 0) → Type 0
LeavesMachine machine P = (k : Machine) × (machine ≡ Some k) × (k.tasks.printed ≡ 0) × P k

-- the text of what is done: that of a whole run, with an exercise's line, or the one to print
abbrev pub IsAllDone : {B : Type 0} → Device B → Closing → Judgement → Option Machine → Text → Type 0
IsAllDone d closing (Refused refusal) machine text = ⊥
IsAllDone d closing (Runs p) machine text = LeavesMachine machine (λ k. IsDone d k.tasks.made (run_of p) closing k text) × (DeviceTells d → IsFinished (run_of p) text.front)
IsAllDone d closing (Prints whole) machine text = (machine ≡ None) × DeviceUnchanged d × (text ≡ only whole)
IsAllDone d closing OfImage machine text = ⊥

-- a run halts; the text of the run has no image
abbrev pub Halts : {B : Type 0} → Device B → Prepared → Closing → Option Machine → Text → Type 0
Halts d p closing machine text =
    LeavesMachine machine (λ k. IsHaltedAt d k.tasks.made (run_of p) closing k text × (DeviceTells d → IsHalted (run_of p) (text.front ++ ended (halted_line k.tasks.made))))

-- core is too small: for the session that opens, or for the next step of the machine that is left
abbrev pub IsShortOfCore : {B : Type 0} → Device B → ℕ → Prepared → Option Machine → Text → Type 0
IsShortOfCore d core p machine text =
    ((machine ≡ None) × DeviceUnchanged d × (core < need_of p.0 p.1) × (text ≡ only (ended (no_core_line (need_of p.0 p.1) core))))
    ⊎ LeavesMachine machine (λ k. WantsCore d core k.tasks.made (run_of p) k text)

-- the device has too few sectors: for the programs of the session that opens, or for the session of the machine that is left,
-- which lacks what its next step wants
abbrev pub IsShortOfSectors : {B : Type 0} → Device B → ℕ → Prepared → Option Machine → Text → Type 0
IsShortOfSectors d core p machine text =
    ((machine ≡ None) × DeviceUnchanged d × (need_of p.0 p.1 ≤ core) × (d.sectors < sectors_of_all p.0 p.1) × (text ≡ only (ended (backing_full_line (sectors_of_all p.0 p.1) d.sectors))))
    ⊎ LeavesMachine machine (λ k. WantsSectors d core k.tasks.made (run_of p) k text)

-- the device failed: as the session opened, for which there is room, or at a step of the machine that is left, which lacks what it wants
abbrev pub IsFailedBy : {B : Type 0} → Device B → ℕ → Prepared → Option Machine → Text → Type 0
IsFailedBy d core p machine text =
    RoomSuffices d core p × (((machine ≡ None) × (text ≡ only (ended backing_fault_line))) ⊎ LeavesMachine machine (λ k. IsCutOff d core k.tasks.made (run_of p) k text))

-- a refusal of a text that was read
abbrev pub TextIsRefused : {S B : Type 0} → List (Bor (List ℕ)) → (S → Option (List ℕ)) → S → S → Device B → Option Machine → Text → Type 0
TextIsRefused words left deck deck' d machine text =
    (command : CommandLine) × (bytes : List ℕ) × (refusal : Refusal) × (command_line_of words ≡ Some command) × CommandWasRead command left deck deck' bytes × DeviceUnchanged d
    × (asked command bytes ≡ Refused refusal) × (machine ≡ None) × (text ≡ only (refusal_text refusal))

-- an image that was read is refused
abbrev pub ImageIsRefused : {S B : Type 0} → List (Bor (List ℕ)) → (S → Option (List ℕ)) → (S → ℕ) → S → S → Device B → Option Machine → Text → Type 0
ImageIsRefused words left source_faults deck deck' d machine text =
    (command : CommandLine) × (sectors : Option ℕ) × (card : ℕ) × (reason : ℕ) × (command_line_of words ≡ Some command) × (image_sectors d.sectors command ≡ Some sectors)
    × IsImageRead left source_faults deck deck' sectors (Err (images.Card card reason)) × DeviceUnchanged d × (machine ≡ None) × (text ≡ only (ended (refused_image_line card reason)))

-- without a machine the device is as it was, or a session had room, and the device failed as it was opened
abbrev pub IsSpared : {S B : Type 0} → List (Bor (List ℕ)) → (S → Option (List ℕ)) → S → S → Device B → Type 0
IsSpared words left deck deck' d = DeviceUnchanged d ⊎ ((core : ℕ) × (p : Prepared) × IsRun words left deck deck' core p × RoomSuffices d core p × Failed d)

-- a machine is that of a session that was opened, or went on from an image
abbrev pub IsOpenedOrResumed : {S B : Type 0} → List (Bor (List ℕ)) → (S → Option (List ℕ)) → (S → ℕ) → S → S → Device B → Machine → Type 0
IsOpenedOrResumed words left source_faults deck deck' d k =
    ((core : ℕ) × (p : Prepared) × IsRun words left deck deck' core p × WasOpened d core p k) ⊎ Resumed words left source_faults deck deck' d (Some k) (λ e core steps r k. Unit {0})

-- it has come to that machine step by step, over core and the device
abbrev pub IsPagedRun : {S B : Type 0} → List (Bor (List ℕ)) → (S → Option (List ℕ)) → (S → ℕ) → S → S → Device B → Machine → Type 0
IsPagedRun words left source_faults deck deck' d k =
    ((core : ℕ) × (p : Prepared) × IsRun words left deck deck' core p × PagedFromOpening d core p k)
    ⊎ ((image : Machine) × IsImageOf words left source_faults deck deck' d.sectors image × PagedFrom d image k)

-- ---- answers to a fault, to a text and to a deck

-- how the answer to a refusal, or to a fault of reading, ends
abbrev pub RefusalEnds : {K : Type 0} → AdmitFault → (K → Option (List ℕ)) → (K → ℕ) → K → K → ℕ → Type 0
RefusalEnds (admits.Refused refusal) taken faults old new answer = EndsPrinting taken faults old new 2 (refusal_text refusal) answer
RefusalEnds admits.SourceFault taken faults old new answer = EndsPrinting taken faults old new 7 reading_text answer
RefusalEnds admits.Memory taken faults old new answer = EndsPrinting taken faults old new 9 memory_text answer

-- how the answer to an image that isn't read ends
abbrev pub ImageRefusalEnds : {K : Type 0} → ImageFault → (K → Option (List ℕ)) → (K → ℕ) → K → K → ℕ → Type 0
ImageRefusalEnds (images.Card card reason) taken faults old new answer = EndsPrinting taken faults old new 2 (ended (refused_image_line card reason)) answer
ImageRefusalEnds images.SourceFault taken faults old new answer = EndsPrinting taken faults old new 7 reading_text answer
ImageRefusalEnds images.Memory taken faults old new answer = EndsPrinting taken faults old new 9 memory_text answer

-- how the answer to an image ends that is dumped, or isn't read
pub data DumpEnds {S K : Type 0} (left : S → Option (List ℕ)) (source_faults : S → ℕ) (deck deck' : S) (taken : K → Option (List ℕ)) (faults : K → ℕ) (old new : K) (answer : ℕ) : Type 0 where
  is_dumped : (image : Machine) (dump : List ℕ) → IsImageRead left source_faults deck deck' None (Ok image) → ForEachShown image (λ s. dump ≡ dump_text s) → EndsPrinting taken faults old new 0 dump answer
      → DumpEnds left source_faults deck deck' taken faults old new answer
  isnt_read : (fault : ImageFault) → IsImageRead left source_faults deck deck' None (Err fault) → ImageRefusalEnds fault taken faults old new answer
      → DumpEnds left source_faults deck deck' taken faults old new answer

-- how the answer ends where a text was made, or wasn't
abbrev pub TextEnds : {K : Type 0} → Result (List ℕ) AdmitFault → (K → Option (List ℕ)) → (K → ℕ) → K → K → ℕ → Type 0
TextEnds (Ok text) taken faults old new answer = EndsPrinting taken faults old new 0 text answer
TextEnds (Err fault) taken faults old new answer = RefusalEnds fault taken faults old new answer

-- a text was made as it is judged, or wasn't, and the answer to it
abbrev pub WritesText : {S K : Type 0} → (List ℕ → Verdict) → (S → Option (List ℕ)) → (S → ℕ) → S → S → (K → Option (List ℕ)) → (K → ℕ) → K → K → ℕ → Type 0
WritesText verdict left source_faults deck deck' taken faults old new answer =
    (made : Result (List ℕ) AdmitFault) × IsJudged left source_faults deck deck' verdict made × TextEnds made taken faults old new answer

-- ---- a run for which core and device are large enough

-- no step of a run before its halt needs more words of core, or sectors for the arrays that there are before it, and after it
-- where it makes one longer
pub record SufficesForSteps {B : Type 0} (d : Device B) (core : ℕ) (r : Run) : Type 0 where
  pub core_suffices : (steps words : ℕ) → IsBeforeHalt r steps → need_next core (after steps r.session) ≡ Some words → words ≤ core
  pub sectors_suffice : (steps sum : ℕ) (m : SessionJob) (t : Task) → IsBeforeHalt r steps → IsNext (after steps r.session) m t → TakesSectors (after steps r.session) m t sum → sum ≤ d.sectors

-- and the session of a deck opens
pub record SufficesForRun {B : Type 0} (d : Device B) (core : ℕ) (p : Prepared) : Type 0 where
  pub room : RoomSuffices d core p
  pub steps : SufficesForSteps d core (run_of p)

-- the text is an image that isn't refused, of so many sectors or of any number
abbrev pub IsImageText : Option ℕ → List ℕ → Type 0
IsImageText sectors text = (card reason : ℕ) → IsMeant (Err (images.Card card reason)) (told_in sectors text) → ⊥

-- the text is such an image, and over what the device tells its machine represents a session, for the run from which
-- the image's core and the device suffice
pub record SufficesForImage {B : Type 0} (d : Device B) (text : List ℕ) : Type 0 where
  pub read : IsImageText (Some d.sectors) text
  pub runs : (image : Machine) → IsMeant (Ok image) (told_in (Some d.sectors) text) → (s : Session) × StandsAt d.before image s × SufficesForSteps d (length image.cpu.core) (run_from s)

-- a run is told and has room, and so is an exercise, and what goes on from an image, which isn't refused; nor is one that is
-- dumped; the other commands need none of this
abbrev pub IsAmple : {B : Type 0} → Device B → CommandLine → List ℕ → Type 0
IsAmple d (lines.Run core) text = DeviceTells d × ((p : Prepared) → judgement text ≡ Runs p → SufficesForRun d core p)
IsAmple d (lines.Image core) text = DeviceTells d × ((p : Prepared) → judgement text ≡ Runs p → SufficesForRun d core p)
IsAmple d lines.Resume text = DeviceTells d × SufficesForImage d text
IsAmple d lines.Dump text = IsImageText None text
IsAmple d lines.Asm text = Unit {0}
IsAmple d lines.Check text = Unit {0}
IsAmple d lines.Convert text = Unit {0}
IsAmple d (lines.Bind pairs) text = Unit {0}
IsAmple d (lines.Exercise seed size core) text = DeviceTells d × ((p : Prepared) → judgement (generated_text seed size) ≡ Runs p → SufficesForRun d core p)

-- the source tells these bytes and doesn't fail; an exercise doesn't ask it
abbrev pub Supplies : {S : Type 0} → CommandLine → (S → Option (List ℕ)) → (S → ℕ) → S → S → List ℕ → Type 0
Supplies (lines.Exercise seed size core) left faults deck deck' bytes = Unit {0}
Supplies _ left faults deck deck' bytes = (left deck ≡ Some bytes) × Stayed faults deck deck'
