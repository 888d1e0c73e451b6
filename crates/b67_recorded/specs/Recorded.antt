-- How the program's call over ends that record ends.
use Rattle.std.specs.Prelude.{◌≡◌, ◌++◌, ℕ, List, [], ◌∷◌, Option, Some, Ok, Bool, true, false, ◌≤◌}
use denote.Ref.{Bor}
use Rattle.b67_io.specs.Causes.{Rose}
use Rattle.b67_io.specs.Line.{ended}
use Rattle.std.specs.declared.io.Write as write
use Rattle.b67_backing.specs.declared.device.Backing.{Ghosts}
use Rattle.b67_session_lines.specs.Ends.{EndsPrinting}
use Rattle.b67_job.specs.Command.{command_line_of, backing_path}
use Rattle.b67_job.specs.Due.{reading_text}
use Rattle.b67_job.specs.Device.{device_of}
use Rattle.b67_job.specs.Judgement.{reads_text, text_limit}
use Rattle.b67_job.specs.Lines.{memory_text, backing_fault_line}
use Rattle.b67_program.specs.Opening.{Leaves, paths_of}
use Rattle.b67_program.specs.Served.{CarriesOut, IsServed}
use Rattle.b67_program.specs.Words.{TellsWords, texts_of}
use Rattle.b67_recorded.specs.Given.{WasTextTaken}
use Rattle.b67_recorded.specs.Ends.{mirror_told, mirror_size, mirror_faults, text_told, text_faults, sink_told, sink_faults}
use Rattle.b67_recorded.specs.Mirror.{IsMirrorOf}
use Rattle.b67_recorded.specs.Files.{reads_sectors, FindsMirrored, LeavesMirrored, WasNotCopied, OpensNoted, FilesUnchanged}
use Rattle.b67_recorded.specs.declared.mirror.Mirrored.{Mirrored}
use Rattle.b67_recorded.specs.declared.process.RecordedProcess.{RecordedProcess}
use Rattle.b67_recorded.specs.declared.sink.RecordedSink.{RecordedSink}
use Rattle.b67_recorded.specs.declared.source.RecordedSource.{RecordedSource}

-- A command was carried out over a text and a mirrored file, which was then closed.
pub record RunsOverMirror {D F W : Type 0} {g : Ghosts F} {w : write.Ghosts W} (kept : D → List ℕ → Option (List (List ℕ))) (words : List (Bor (List ℕ))) (text path : List ℕ) (file : Mirrored F g) (later : D) (old new : RecordedSink W w) (status : ℕ) : Type 0 where
  pub file_after : Mirrored F g
  pub left_so : LeavesMirrored kept later path file_after
  pub over : CarriesOut words text (device_of mirror_told mirror_size mirror_faults file file_after) sink_told sink_faults old new status

-- The same over a file of which all was copied first; or a read of it failed, and it was closed.
pub data RunsOverCopy {D F W : Type 0} (g : Ghosts F) {w : write.Ghosts W} (kept : D → List ℕ → Option (List (List ℕ))) (words : List (Bor (List ℕ))) (text path : List ℕ) (device : F) (later : D) (old new : RecordedSink W w) (status : ℕ) : Type 0 where
  is_copied : (file : Mirrored F g) → ((copies : Bool) → IsMirrorOf g.holds g.size copies device file.inner file.held.items) → file.faults ≡ 0 → RunsOverMirror kept words text path file later old new status
      → RunsOverCopy g kept words text path device later old new status
  is_unread : (left : F) → Leaves kept g.holds later path left → (g.size device ≤ 65536 → Rose g.faults device left) → EndsPrinting sink_told sink_faults old new 6 (ended backing_fault_line) status
      → RunsOverCopy g kept words text path device later old new status

-- The words were served over a text in memory and over the mirrored file of their path, which was opened and no other; or that file is
-- read before it is written, and not all of it was copied.
pub data ServesText {D F W : Type 0} (g : Ghosts F) {w : write.Ghosts W} (opened : D → Option (List (List ℕ))) (kept : D → List ℕ → Option (List (List ℕ))) (words : List (Bor (List ℕ))) (text : List ℕ)
    (now later : D) (noted noted' : List (List ℕ)) (old new : RecordedSink W w) (status : ℕ) : Type 0 where
  is_served : OpensNoted opened now later noted noted' (paths_of (backing_path words))
      → IsServed words text_told text_faults text [] (FindsMirrored {g = g} kept now (reads_sectors (command_line_of words))) (LeavesMirrored {g = g} kept later) (device_of (mirror_told {F = F} {g = g}) mirror_size mirror_faults) sink_told sink_faults old new status
      → ServesText g opened kept words text now later noted noted' old new status
  isnt_copied : (path : List ℕ) → backing_path words ≡ Some path → reads_sectors (command_line_of words) ≡ true → OpensNoted opened now later noted noted' (path ∷ [])
      → WasNotCopied kept g.holds g.size g.faults now later path → EndsPrinting sink_told sink_faults old new 6 (ended backing_fault_line) status
      → ServesText g opened kept words text now later noted noted' old new status

-- The text of the words' command was given, and the words were served over it; or a read failed of a command that reads a text, or memory was refused, after a part of it
-- at most, and then no file was opened.
pub data IsTextServed {D F R W : Type 0} (g : Ghosts F) {w : write.Ghosts W} (opened : D → Option (List (List ℕ))) (kept : D → List ℕ → Option (List (List ℕ))) (words : List (Bor (List ℕ)))
    (now later : D) (noted noted' : List (List ℕ)) (input input' : RecordedSource R) (old new : RecordedSink W w) (status : ℕ) : Type 0 where
  over_text : (text : List ℕ) → WasTextTaken (text_limit (command_line_of words)) input.given.bytes input'.given.bytes input.faults input'.faults input'.ended (Ok text)
      → ServesText g opened kept words text now later noted noted' old new status → IsTextServed g opened kept words now later noted noted' input input' old new status
  reading_failed : reads_text (command_line_of words) ≡ true → (part : List ℕ) → input'.given.bytes ≡ input.given.bytes ++ part → Rose (λ (s : RecordedSource R). s.faults) input input' → FilesUnchanged now later noted noted' → EndsPrinting sink_told sink_faults old new 7 reading_text status
      → IsTextServed g opened kept words now later noted noted' input input' old new status
  memory_wanted : (part : List ℕ) → input'.given.bytes ≡ input.given.bytes ++ part → FilesUnchanged now later noted noted' → EndsPrinting sink_told sink_faults old new 9 memory_text status
      → IsTextServed g opened kept words now later noted noted' input input' old new status

-- The process's words were noted, and their text was served: of words that ask for no text the input is left as it was. Or memory was refused for them, and then nothing was read and no file was
-- opened.
pub data IsRecordServed {D F R W : Type 0} {g : Ghosts F} {w : write.Ghosts W} (told opened : D → Option (List (List ℕ))) (kept : D → List ℕ → Option (List (List ℕ)))
    (process process' : RecordedProcess D F g) (input input' : RecordedSource R) (old new : RecordedSink W w) (status : ℕ) : Type 0 where
  on_words : (words : List (Bor (List ℕ))) → TellsWords told process.inner (texts_of words) → process'.words.texts ≡ process.words.texts ++ texts_of words → (reads_text (command_line_of words) ≡ false → input' ≡ input)
      → IsTextServed g opened kept words process.inner process'.inner process.opened.texts process'.opened.texts input input' old new status → IsRecordServed told opened kept process process' input input' old new status
  words_want_memory : FilesUnchanged process.inner process'.inner process.opened.texts process'.opened.texts → input' ≡ input → EndsPrinting sink_told sink_faults old new 9 memory_text status
      → IsRecordServed told opened kept process process' input input' old new status

-- ---- the same of a process

abbrev pub RunsOverCopyBy : {D F W : Type 0} {g : Ghosts F} {w : write.Ghosts W} → (D → List ℕ → Option (List (List ℕ))) → List (Bor (List ℕ)) → List ℕ → List ℕ → F → RecordedProcess D F g → RecordedSink W w → RecordedSink W w → ℕ → Type 0
RunsOverCopyBy {g = g} kept words text path device process' old new status = RunsOverCopy g kept words text path device process'.inner old new status

abbrev pub ServesTextBy : {D F W : Type 0} {g : Ghosts F} {w : write.Ghosts W} → (D → Option (List (List ℕ))) → (D → List ℕ → Option (List (List ℕ))) → List (Bor (List ℕ)) → List ℕ → RecordedProcess D F g → RecordedProcess D F g → RecordedSink W w → RecordedSink W w → ℕ → Type 0
ServesTextBy {g = g} opened kept words text process process' old new status = ServesText g opened kept words text process.inner process'.inner process.opened.texts process'.opened.texts old new status

abbrev pub IsTextServedBy : {D F R W : Type 0} {g : Ghosts F} {w : write.Ghosts W} → (D → Option (List (List ℕ))) → (D → List ℕ → Option (List (List ℕ))) → List (Bor (List ℕ)) → RecordedProcess D F g → RecordedProcess D F g → RecordedSource R → RecordedSource R → RecordedSink W w → RecordedSink W w → ℕ → Type 0
IsTextServedBy {g = g} opened kept words process process' input input' old new status = IsTextServed g opened kept words process.inner process'.inner process.opened.texts process'.opened.texts input input' old new status
