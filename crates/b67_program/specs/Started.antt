-- How the call ends that `main` is.
use Rattle.std.specs.Prelude.{◌≡◌, ℕ, List, Option, false}
use denote.Ref.{Bor}
use Rattle.b67_session_lines.specs.Ends.{EndsPrinting}
use Rattle.b67_job.specs.Command.{command_line_of, backing_path}
use Rattle.b67_job.specs.Device.{device_of}
use Rattle.b67_job.specs.Judgement.{reads_text}
use Rattle.b67_job.specs.Lines.{memory_text}
use Rattle.b67_program.specs.Opening.{OpensPaths, Finds, Leaves, paths_of}
use Rattle.b67_program.specs.Served.{IsServed}
use Rattle.b67_program.specs.Words.{TellsWords, texts_of}

-- what `serve` says of these words: the file of their path was opened and no other, they were served, and a command that reads no
-- text left the input as it was
pub record ServesWords {R S B K : Type 0} (words : List (Bor (List ℕ))) (opened : R → Option (List (List ℕ))) (kept : R → List ℕ → Option (List (List ℕ)))
    (holds : B → Option (List (List ℕ))) (size broken : B → ℕ) (process process' : R) (left : S → Option (List ℕ)) (source_faults : S → ℕ) (input input' : S)
    (taken : K → Option (List ℕ)) (faults : K → ℕ) (old new : K) (status : ℕ) : Type 0 where
  pub opened_so : OpensPaths opened process process' (paths_of (backing_path words))
  pub served : IsServed words left source_faults input input' (Finds kept holds process) (Leaves kept holds process') (device_of holds size broken) taken faults old new status
  pub unread : reads_text (command_line_of words) ≡ false → input' ≡ input

-- The process's words were served; or memory was refused for them, and then nothing was read and no file was touched.
pub data IsProcessServed {R S B K : Type 0} (given : R → Option (List (List ℕ))) (opened : R → Option (List (List ℕ))) (kept : R → List ℕ → Option (List (List ℕ)))
    (holds : B → Option (List (List ℕ))) (size broken : B → ℕ) (process process' : R) (left : S → Option (List ℕ)) (source_faults : S → ℕ) (input input' : S)
    (taken : K → Option (List ℕ)) (faults : K → ℕ) (old new : K) (status : ℕ) : Type 0 where
  on_words : (words : List (Bor (List ℕ))) → TellsWords given process (texts_of words)
      → ServesWords words opened kept holds size broken process process' left source_faults input input' taken faults old new status
      → IsProcessServed given opened kept holds size broken process process' left source_faults input input' taken faults old new status
  words_want_memory : process' ≡ process → input' ≡ input → EndsPrinting taken faults old new 9 memory_text status
      → IsProcessServed given opened kept holds size broken process process' left source_faults input input' taken faults old new status
