-- What each command of the program prints and answers, by the text that its input gave, and by what the sectors of its file hold.
use Rattle.std.specs.Prelude.{◌≡◌, ◌≤◌, ◌+◌, ◌⊎◌, ℕ, List, [], ◌∷◌, ◌++◌, length, Bool, true, Option, Some, None, Ok, Err}
use Rattle.std.specs.declared.io.Write as write
use Rattle.b67_io.specs.Causes.{Rose, Stayed}
use Rattle.b67_io.specs.Line.{ended}
use Rattle.b67_backing.specs.declared.device.Backing.{Ghosts}
use Rattle.b67_model.specs.Common.{Run, Session, after, lines, run_text}
use Rattle.b67_gen.specs.Generated.{generated_text}
use Rattle.b67_dump.specs.Dump.{dump_text}
use Rattle.b67_dump.specs.Analysed.{ForEachShown}
use Rattle.b67_image.specs.Meaning.{told_in, IsMeant}
use Rattle.b67_image.specs.declared.fault.ImageFault.TheVariants as images
use Rattle.b67_task.specs.declared.tables.Machine.{Machine}
use Rattle.b67_job.specs.declared.refusal.Refusal.{Refusal}
use Rattle.b67_job.specs.declared.command.CommandLine.{CommandLine}
use Rattle.b67_job.specs.declared.command.CommandLine.TheVariants as commands
use Rattle.b67_job.specs.declared.summaries.Exercise.{Exercise}
use Rattle.b67_job.specs.Admitting.{Prepared, deck_prepared, run_of}
use Rattle.b67_job.specs.Due.{usage_text}
use Rattle.b67_job.specs.Going.{run_from}
use Rattle.b67_job.specs.Judgement.{reads_text, text_limit}
use Rattle.b67_job.specs.Lines.{refused_image_line}
use Rattle.b67_job.specs.Runs.{StandsAt}
use Rattle.b67_job.specs.Told.{backing_fault_line, memory_text, reading_text, refusal_text}
use Rattle.b67_job.specs.Verdicts.{Verdict, check_verdict, asm_verdict, convert_verdict, bind_verdict}
use Rattle.b67_recorded.specs.Ends.{mirror_sectors, mirror_size}
use Rattle.b67_recorded.specs.Files.{reads_sectors, FindsMirrored, LeavesMirrored, WasNotCopied}
use Rattle.b67_recorded.specs.declared.mirror.Mirrored.{Mirrored}
use Rattle.b67_recorded.specs.declared.process.RecordedProcess.{RecordedProcess}
use Rattle.b67_recorded.specs.declared.sink.RecordedSink.{RecordedSink}
use Rattle.b67_recorded.specs.declared.source.RecordedSource.{RecordedSource}
use Rattle.b67_promises.specs.Described.{BeginsLonger, IsAnsweredSo, IsDueOf, MakesSteps, OpensWithin, StopsAfter}
use Rattle.b67_promises.specs.Halts.{text_of_halt}

-- in a call the writer took these bytes
abbrev pub TakesText : {W : Type 0} {w : write.Ghosts W} → RecordedSink W w → RecordedSink W w → List ℕ → Type 0
TakesText old new out = new.noted.bytes ≡ old.noted.bytes ++ out

-- This text is due, and this status: it is printed; or the printer fails in it.
pub data PrintsText (due : ℕ) (whole : List ℕ) (status : ℕ) (takes : List ℕ → Type 0) : Type 0 where
  is_printed : status ≡ due → takes whole → PrintsText due whole status takes
  is_cut : (out : List ℕ) → status ≡ 8 → takes out → BeginsLonger out whole → PrintsText due whole status takes

-- A read of the text failed, or memory was refused, and the line that says so is due.
pub data PrintsFailure (status : ℕ) (takes : List ℕ → Type 0) : Type 0 where
  reading_fails : PrintsText 7 reading_text status takes → PrintsFailure status takes
  memory_is_wanted : PrintsText 9 memory_text status takes → PrintsFailure status takes

-- ---- what the commands make of a text

-- What the machine of the model gives of a deck is printed.
abbrev pub PrintsRun : Option Exercise → ℕ → ℕ → List ℕ → ℕ → (List ℕ → Type 0) → Type 0
PrintsRun e core sectors bytes status takes = (out : List ℕ) × takes out × IsAnsweredSo e core sectors bytes status out

-- What is made of a text is due, or its first refusal.
pub data PrintsVerdict (v : Verdict) (status : ℕ) (takes : List ℕ → Type 0) : Type 0 where
  is_made : (made : List ℕ) → v ≡ Ok made → PrintsText 0 made status takes → PrintsVerdict v status takes
  isnt_made : (refusal : Refusal) → v ≡ Err refusal → PrintsText 2 (refusal_text refusal) status takes → PrintsVerdict v status takes

-- The text is an image of some machine, with any number of sectors, and the dump of each session that this represents is due; or its
-- first refusal is.
pub data PrintsDump (text : List ℕ) (status : ℕ) (takes : List ℕ → Type 0) : Type 0 where
  dump_is_printed : (m : Machine) (dump : List ℕ) → IsMeant (Ok m) (told_in None text) → ForEachShown m (λ s. dump ≡ dump_text s) → PrintsText 0 dump status takes → PrintsDump text status takes
  isnt_dumped : (card reason : ℕ) → IsMeant (Err (images.Card card reason)) (told_in None text) → PrintsText 2 (ended (refused_image_line card reason)) status takes → PrintsDump text status takes

-- What the machine of the model gives of a deck is due; where the halt comes, an image stands before its line. Its machine has that core, and
-- represents the session at the halt over what the sectors are left to hold.
pub data PrintsImage (core sectors : ℕ) (left : List (List ℕ)) (bytes : List ℕ) (status : ℕ) (takes : List ℕ → Type 0) : Type 0 where
  doesnt_halt : (due : ℕ) (whole : List ℕ) → (due ≡ 3 → ⊥) → IsDueOf None core sectors bytes due whole → PrintsText due whole status takes → PrintsImage core sectors left bytes status takes
  is_cut_in_lines : (out : List ℕ) (p : Prepared) (steps : ℕ) → status ≡ 8 → takes out → deck_prepared bytes ≡ Ok p → OpensWithin core sectors p → MakesSteps core (run_of p) steps
      → BeginsLonger out (run_text (lines steps (run_of p).session)) → PrintsImage core sectors left bytes status takes
  halts : (p : Prepared) (steps : ℕ) (m : Machine) → deck_prepared bytes ≡ Ok p → OpensWithin core sectors p → MakesSteps core (run_of p) steps → (run_of p).halt ≡ Some steps → length m.cpu.core ≡ core → StandsAt (Some left) m (after steps (run_of p).session)
      → PrintsText 3 (text_of_halt (lines steps (run_of p).session) m steps) status takes → PrintsImage core sectors left bytes status takes

-- The lines of a run's steps and of its stop are due; or the printer fails in those of steps that are made.
pub data PrintsSteps (core sectors : ℕ) (r : Run) (status : ℕ) (takes : List ℕ → Type 0) : Type 0 where
  steps_are_due : (steps due : ℕ) (line : List ℕ) → MakesSteps core r steps → StopsAfter None core sectors r steps due line → PrintsText due (run_text (lines steps r.session) ++ line) status takes → PrintsSteps core sectors r status takes
  steps_are_cut : (out : List ℕ) (steps : ℕ) → status ≡ 8 → takes out → MakesSteps core r steps → BeginsLonger out (run_text (lines steps r.session)) → PrintsSteps core sectors r status takes

-- The text is an image of some machine with as many sectors as the device has, and the steps go on from each session that this
-- represents over what the device is found to hold; or its first refusal is due.
pub data PrintsRest (sectors : ℕ) (found : List (List ℕ)) (text : List ℕ) (status : ℕ) (takes : List ℕ → Type 0) : Type 0 where
  goes_on : (m : Machine) → IsMeant (Ok m) (told_in (Some sectors) text) → ((s : Session) → StandsAt (Some found) m s → PrintsSteps (length m.cpu.core) sectors (run_from s) status takes) → PrintsRest sectors found text status takes
  doesnt_go_on : (card reason : ℕ) → IsMeant (Err (images.Card card reason)) (told_in (Some sectors) text) → PrintsText 2 (ended (refused_image_line card reason)) status takes → PrintsRest sectors found text status takes

-- ---- by command

-- Of words that name no file, as those of `run`, `image` and `resume` do. An exercise runs over 4,096 sectors in memory.
abbrev pub AnswersAlone : Option CommandLine → List ℕ → ℕ → (List ℕ → Type 0) → Type 0
AnswersAlone None text status takes = PrintsText 1 usage_text status takes
AnswersAlone (Some commands.Asm) text status takes = PrintsVerdict (asm_verdict text) status takes
AnswersAlone (Some commands.Check) text status takes = PrintsVerdict (check_verdict text) status takes
AnswersAlone (Some commands.Convert) text status takes = PrintsVerdict (convert_verdict text) status takes
AnswersAlone (Some (commands.Bind pairs)) text status takes = PrintsVerdict (bind_verdict pairs text) status takes
AnswersAlone (Some commands.Dump) text status takes = PrintsDump text status takes
AnswersAlone (Some (commands.Exercise seed size core)) text status takes = PrintsRun (Some (record { seed = seed; size = size })) core 4096 (generated_text seed size) status takes
AnswersAlone (Some (commands.Run core)) text status takes = ⊥
AnswersAlone (Some (commands.Image core)) text status takes = ⊥
AnswersAlone (Some commands.Resume) text status takes = ⊥

-- Of words that name a file, which are those three commands: over so many sectors, which are found to hold this, and are left to hold that.
abbrev pub AnswersOver : Option CommandLine → ℕ → List (List ℕ) → List (List ℕ) → List ℕ → ℕ → (List ℕ → Type 0) → Type 0
AnswersOver (Some (commands.Run core)) sectors found left text status takes = PrintsRun None core sectors text status takes
AnswersOver (Some (commands.Image core)) sectors found left text status takes = PrintsImage core sectors left text status takes
AnswersOver (Some commands.Resume) sectors found left text status takes = PrintsRest sectors found text status takes
AnswersOver _ sectors found left text status takes = ⊥

-- ---- a whole call

-- the text of a command that may read so many bytes: all that came up to its end, or one byte more; of one that reads none, nothing
abbrev pub IsTextOf : Option ℕ → List ℕ → Bool → Type 0
IsTextOf (Some most) text ended = (length text ≤ most + 1) × (length text ≤ most → ended ≡ true)
IsTextOf None text ended = text ≡ []

-- Of words that name no file: the reader gave a text, no file was opened, and what the writer took and the status are the command's for
-- this text. Or the call failed, after a part of it at most.
pub data PrintsAlone {D F R W : Type 0} {g : Ghosts F} {w : write.Ghosts W} (command : Option CommandLine) (process process' : RecordedProcess D F g) (input input' : RecordedSource R) (old new : RecordedSink W w) (status : ℕ) : Type 0 where
  answers_alone : (text : List ℕ) → input'.given.bytes ≡ input.given.bytes ++ text → IsTextOf (text_limit command) text input'.ended → process'.opened.texts ≡ process.opened.texts
      → AnswersAlone command text status (TakesText old new) → PrintsAlone command process process' input input' old new status
  fails_alone : (part : List ℕ) → input'.given.bytes ≡ input.given.bytes ++ part → process'.opened.texts ≡ process.opened.texts → PrintsFailure status (TakesText old new) → PrintsAlone command process process' input input' old new status

-- Of words that name a path: the reader gave a text, the file of the path was opened and no other, and what the writer took and the
-- status are the command's for this text, and for what the mirror of the file was found to hold and is left to hold. Or not all of the file
-- could be copied; or the call failed, after a part of the text at most.
pub data PrintsOver {D F R W : Type 0} {g : Ghosts F} {w : write.Ghosts W} (kept : D → List ℕ → Option (List (List ℕ))) (command : Option CommandLine) (path : List ℕ) (process process' : RecordedProcess D F g) (input input' : RecordedSource R)
    (old new : RecordedSink W w) (status : ℕ) : Type 0 where
  answers_over : (text : List ℕ) → input'.given.bytes ≡ input.given.bytes ++ text → IsTextOf (text_limit command) text input'.ended → process'.opened.texts ≡ process.opened.texts ++ path ∷ []
      → (file file' : Mirrored F g) → FindsMirrored kept process.inner (reads_sectors command) path file → LeavesMirrored kept process'.inner path file'
      → AnswersOver command (mirror_size file) (mirror_sectors file) (mirror_sectors file') text status (TakesText old new) → PrintsOver kept command path process process' input input' old new status
  copy_isnt_made : (text : List ℕ) → input'.given.bytes ≡ input.given.bytes ++ text → IsTextOf (text_limit command) text input'.ended → process'.opened.texts ≡ process.opened.texts ++ path ∷ []
      → reads_sectors command ≡ true → WasNotCopied kept g.holds g.size g.faults process.inner process'.inner path → PrintsText 6 (ended backing_fault_line) status (TakesText old new)
      → PrintsOver kept command path process process' input input' old new status
  fails_over : (part : List ℕ) → input'.given.bytes ≡ input.given.bytes ++ part → (process'.opened.texts ≡ process.opened.texts) ⊎ (process'.opened.texts ≡ process.opened.texts ++ path ∷ []) → PrintsFailure status (TakesText old new)
      → PrintsOver kept command path process process' input input' old new status

-- ---- causes

-- A status that names the reader or the writer comes only where that failed: the reader of a command that reads a text.
pub record HasCauses {R W : Type 0} {w : write.Ghosts W} (command : Option CommandLine) (input input' : RecordedSource R) (old new : RecordedSink W w) (status : ℕ) : Type 0 where
  pub reading : status ≡ 7 → (reads_text command ≡ true) × Rose (λ (s : RecordedSource R). s.faults) input input'
  pub printing : status ≡ 8 → Rose (λ (s : RecordedSink W w). s.faults) old new

-- neither the reader nor the writer failed
abbrev pub NeitherFailed : {R W : Type 0} {w : write.Ghosts W} → RecordedSource R → RecordedSource R → RecordedSink W w → RecordedSink W w → Type 0
NeitherFailed {R = R} {W = W} {w = w} input input' old new = Stayed (λ (s : RecordedSource R). s.faults) input input' × Stayed (λ (s : RecordedSink W w). s.faults) old new
