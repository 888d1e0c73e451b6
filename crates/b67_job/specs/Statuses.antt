-- What each status says of a call.
use Rattle.std.specs.Prelude.{ℕ, ◌≡◌, ◌⊎◌, true, false, List, Option, Some, None, is_some}
use denote.Ref.{Bor}
use Rattle.b67_io.specs.Told.{Took}
use Rattle.b67_io.specs.Causes.{Rose}
use Rattle.b67_task.specs.declared.tables.Machine.{Machine}
use Rattle.b67_job.specs.Admitting.{Prepared}
use Rattle.b67_session_lines.specs.Stops.{Run, IsFinished}
use Rattle.b67_job.specs.Command.{command_line_of}
use Rattle.b67_job.specs.declared.command.CommandLine.{CommandLine}
use Rattle.b67_job.specs.declared.summaries.Closing.TheVariants as closings
use Rattle.b67_job.specs.Device.{Device, DeviceTells, Failed, DeviceUnchanged}
use Rattle.b67_job.specs.Going.{Resumed}
use Rattle.b67_job.specs.Due.{usage_text, reading_text, ReadAll, IsRun, IsDue, IsAllDone, Halts, IsShortOfCore, IsShortOfSectors, IsFailedBy, TextIsRefused, ImageIsRefused, IsDumpOf}
use Rattle.b67_job.specs.Judgement.{asked, closing_of, reads_text}
use Rattle.b67_job.specs.Lines.{memory_text}
use Rattle.b67_job.specs.Runs.{IsDone, WantsCore, WantsSectors, IsCutOff, StopsOpened, IsPrintingNext, IsPrintingStep}
use Rattle.b67_job.specs.Texts.{Text, whole_of, TookUpTo}

-- a deck was read to its end, or is that of an exercise, and ran; this holds of it, its programs and the text that was printed
abbrev pub Ran : {S K : Type 0} → List (Bor (List ℕ)) → (S → Option (List ℕ)) → S → S → (K → Option (List ℕ)) → K → K → (ℕ → Prepared → Text → Type 0) → Type 0
Ran words left deck deck' taken old new P = (core : ℕ) × (p : Prepared) × (text : Text) × IsRun words left deck deck' core p × P core p text × Took taken old new (whole_of text)

-- a run went on from an image, and from each session that this represents this holds of the steps, with a text that was printed,
-- and nothing behind it
abbrev pub WentOn : {S B K : Type 0} → List (Bor (List ℕ)) → (S → Option (List ℕ)) → (S → ℕ) → S → S → Device B → Option Machine → (K → Option (List ℕ)) → K → K → (Device B → ℕ → ℕ → Run → Machine → Text → Type 0) → Type 0
WentOn words left source_faults deck deck' d machine taken old new P =
    Resumed words left source_faults deck deck' d machine (λ e core steps r k. (text : Text) × (k.tasks.printed ≡ 0) × P e core steps r k text × Took taken old new (whole_of text))

-- the dump of an image is printed
abbrev pub IsDumped : {S B K : Type 0} → List (Bor (List ℕ)) → (S → Option (List ℕ)) → (S → ℕ) → S → S → Device B → Option Machine → (K → Option (List ℕ)) → K → K → Type 0
IsDumped words left source_faults deck deck' d machine taken old new =
    (image : Machine) × (dump : List ℕ) × IsDumpOf words left source_faults deck deck' image dump × (machine ≡ None) × DeviceUnchanged d × Took taken old new dump

pub record StatusMeans {S B K : Type 0} (words : List (Bor (List ℕ))) (left : S → Option (List ℕ)) (source_faults : S → ℕ) (deck deck' : S) (d : Device B) (machine : Option Machine)
    (taken : K → Option (List ℕ)) (printer_faults : K → ℕ) (old new : K) (status : ℕ) : Type 0 where
  -- No words of a command: nothing is read, and the usage line is printed.
  pub usage : status ≡ 1 → (is_some (command_line_of words) ≡ false) × (deck' ≡ deck) × Took taken old new usage_text
  pub no_command : is_some (command_line_of words) ≡ false → (status ≡ 1) ⊎ (status ≡ 8)
  -- A text that was read, up to the first byte past its limit, is refused by the command: the line of its first refusal is
  -- printed.
  pub refused : status ≡ 2 → (text : Text) × (TextIsRefused words left deck deck' d machine text ⊎ ImageIsRefused words left source_faults deck deck' d machine text) × Took taken old new (whole_of text)
  -- The deck was read to its end, or is that of an exercise, and the command's work is done: the whole text of its run is
  -- printed, at the halt at the latest, with an exercise's line after it, and the machine represents a session without tasks; or
  -- the text that it is to print. Or an image was read to its end, and its dump is printed, or the rest of its run.
  pub done : status ≡ 0 → ((command : CommandLine) × (bytes : List ℕ) × (text : Text) × (command_line_of words ≡ Some command) × ReadAll command left deck deck' bytes
      × IsAllDone d (closing_of (Some command)) (asked command bytes) machine text × Took taken old new (whole_of text))
      ⊎ (IsDumped words left source_faults deck deck' d machine taken old new ⊎ WentOn words left source_faults deck deck' d machine taken old new (λ e core steps r k text. IsDone e steps r closings.Plain k text × (DeviceTells e → IsFinished r text.front)))
  -- The run halted: the machine represents a session with a task at the count of its halt, and the text up to there is
  -- printed, with the line of the halt after it. The image of that machine stands between them where the words ask for it.
  pub halted : status ≡ 3 → Ran words left deck deck' taken old new (λ core p text. Halts d p (closing_of (command_line_of words)) machine text)
  -- Core is too small for the session that opens or for a step, or the device has too few sectors for it. The machine is
  -- before that step, which lacks its segment or its array where sectors are wanted, makes an array longer or starts a task.
  pub core_wanted : status ≡ 4 → Ran words left deck deck' taken old new (λ core p text. IsShortOfCore d core p machine text) ⊎ WentOn words left source_faults deck deck' d machine taken old new WantsCore
  pub sectors_wanted : status ≡ 5 → Ran words left deck deck' taken old new (λ core p text. IsShortOfSectors d core p machine text) ⊎ WentOn words left source_faults deck deck' d machine taken old new WantsSectors
  -- A device failed. At a step the machine is before it, and lacks its segment or its array, or the step makes one longer or
  -- starts a task.
  pub backing_fault : status ≡ 6 → Failed d × (Ran words left deck deck' taken old new (λ core p text. IsFailedBy d core p machine text) ⊎ WentOn words left source_faults deck deck' d machine taken old new IsCutOff)
  -- The source failed, of a command that reads it.
  pub reading_fault : status ≡ 7 → (reads_text (command_line_of words) ≡ true) × Rose source_faults deck deck' × Took taken old new reading_text
  -- The printer failed. It has taken all lines of the steps, and a part of what is due after them: of the last line, or of an
  -- image and that line; or, as the machine counts, of the first part of the next step, or of the lines of LIMIT of the last one.
  pub printing_fault : status ≡ 8 → Rose printer_faults old new × (((text : Text) × (count : ℕ)
      × (((due : ℕ) × IsDue words left source_faults deck deck' d machine due text)
      ⊎ ((core : ℕ) × (p : Prepared) × IsRun words left deck deck' core p × IsPrintingStep d core p machine text count))
      × TookUpTo taken old new text count)
      ⊎ Resumed words left source_faults deck deck' d machine (λ e core steps r k. (text : Text) × (count : ℕ)
      × (((due : ℕ) × StopsOpened e core steps r closings.Plain k due text) ⊎ (IsPrintingNext e core steps r k text × (count ≡ k.tasks.printed)))
      × TookUpTo taken old new text count))
  -- Memory was refused, and no session is open; the backing is as it was.
  pub memory : status ≡ 9 → (machine ≡ None) × DeviceUnchanged d × Took taken old new memory_text
