-- What a command and a text ask for.
use Rattle.std.specs.Prelude.{ℕ, List, Ok, Err, Option, Some, None, Bool, true, false}
use Rattle.b67_job.specs.declared.refusal.Refusal.{Refusal}
use Rattle.b67_job.specs.Admitting.{Admission, Prepared, deck_prepared}
use Rattle.b67_job.specs.Verdicts.{Verdict, check_verdict, asm_verdict, convert_verdict, bind_verdict}
use Rattle.b67_session_lines.specs.Stops.{run_status}
use Rattle.b67_gen.specs.Generated.{generated_text}
use Rattle.b67_model_text.specs.Deck as deck
use Rattle.b67_image.specs.Text as image
use Rattle.b67_job.specs.Runs.{run_of}
use Rattle.b67_job.specs.declared.summaries.Closing.{Closing}
use Rattle.b67_job.specs.declared.summaries.Closing.TheVariants as closings
use Rattle.b67_job.specs.declared.command.CommandLine.{CommandLine}
use Rattle.b67_job.specs.declared.command.CommandLine.TheVariants as lines

-- a refusal, or a deck with its programs runs, or a text is printed; or an image is read, and what its reading answers decides
pub data Judgement : Type 0 where
  Refused : (refusal : Refusal) → Judgement
  Runs : (prepared : Prepared) → Judgement
  Prints : (text : List ℕ) → Judgement
  OfImage : Judgement

abbrev pub prepared_judgement : Admission Prepared → Judgement
prepared_judgement (Ok p) = Runs p
prepared_judgement (Err refusal) = Refused refusal

-- by a whole text: it is read, its programs are assembled or read, and admitted
unfoldable pub judgement : List ℕ → Judgement
judgement text = prepared_judgement (deck_prepared text)

abbrev pub printed : Verdict → Judgement
printed (Ok text) = Prints text
printed (Err refusal) = Refused refusal

-- by a command and a whole text; an exercise brings its own text
abbrev pub asked : CommandLine → List ℕ → Judgement
asked (lines.Run core) text = judgement text
asked (lines.Image core) text = judgement text
asked lines.Resume text = OfImage
asked lines.Dump text = OfImage
asked lines.Asm text = printed (asm_verdict text)
asked lines.Check text = printed (check_verdict text)
asked lines.Convert text = printed (convert_verdict text)
asked (lines.Bind pairs) text = printed (bind_verdict pairs text)
asked (lines.Exercise seed size core) text = judgement (generated_text seed size)

-- the words of core that a command opens a session in
abbrev pub core_asked : CommandLine → Option ℕ
core_asked (lines.Run core) = Some core
core_asked (lines.Image core) = Some core
core_asked (lines.Exercise seed size core) = Some core
core_asked _ = None

-- what the run that words ask for prints besides the lines of its steps and of its stop
abbrev pub closing_of : Option CommandLine → Closing
closing_of (Some (lines.Exercise seed size core)) = closings.Exercise (record { seed = seed; size = size })
closing_of (Some (lines.Image core)) = closings.Image
closing_of _ = closings.Plain

-- these words ask for a command that reads a text: each does but an exercise
abbrev pub reads_text : Option CommandLine → Bool
reads_text None = false
reads_text (Some (lines.Exercise seed size core)) = false
reads_text (Some _) = true

-- the most bytes that a command may read of its text, where it reads one: those of a deck, or of an image
abbrev pub text_limit : Option CommandLine → Option ℕ
text_limit None = None
text_limit (Some (lines.Exercise seed size core)) = None
text_limit (Some lines.Resume) = Some image.limit
text_limit (Some lines.Dump) = Some image.limit
text_limit (Some _) = Some deck.limit

-- the number of sectors of the image that a command reads over a device of so many: the same, or any
abbrev pub image_sectors : ℕ → CommandLine → Option (Option ℕ)
image_sectors count lines.Resume = Some (Some count)
image_sectors count lines.Dump = Some None
image_sectors count _ = None

-- it reads a deck, or cards of one program
abbrev pub reads_deck : CommandLine → Bool
reads_deck (lines.Exercise seed size core) = false
reads_deck lines.Resume = false
reads_deck lines.Dump = false
reads_deck _ = true

abbrev pub judged_status : Judgement → ℕ
judged_status (Refused refusal) = 2
judged_status (Runs p) = run_status (run_of p)
judged_status (Prints text) = 0
judged_status OfImage = 0
