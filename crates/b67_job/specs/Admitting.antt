-- The programs of a deck: assembled or read in job order, then admitted in job order, or the first refusal.
use Rattle.std.specs.Prelude.{ℕ, List, [], ◌∷◌, Option, Some, None, Result, Ok, Err, ⊤}
use Rattle.b67_codefile.specs.declared.fault.BadFile.{BadFile}
use Rattle.b67_codefile.specs.declared.fault.BadFile.TheVariants as bad
use Rattle.b67_codefile.specs.declared.file.Codefile.{Codefile}
use Rattle.b67_codefile.specs.Reading.{file_of}
use Rattle.b67_codefile.specs.Meaning.{program_of}
use Rattle.b67_model.specs.Common.{Program, Run, refusals, first_of}
pub use Rattle.b67_model.specs.Answers.{◌>>=◌}
use Rattle.b67_model.specs.Loader as loader
use Rattle.b67_model_text.specs.declared.deck.Body.{Body}
use Rattle.b67_model_text.specs.declared.deck.Body.TheVariants.{Cards, Bytes}
use Rattle.b67_model_text.specs.declared.deck.Job.{Job}
use Rattle.b67_model_text.specs.declared.deck.Deck.{Deck}
use Rattle.b67_model_text.specs.Deck as deck
use Rattle.b67_model_text.specs.Deck.{deck_of}
use Rattle.b67_model_text.specs.Opening.{session_of}
use Rattle.b67_model_text.specs.Asm.{assembled}
use Rattle.b67_job.specs.declared.refusal.Refusal.{Refusal}
use Rattle.b67_job.specs.declared.refusal.Refusal.TheVariants as refusal

-- an answer, or the first refusal
abbrev pub Admission : Type 0 → Type 0
Admission A = Result A Refusal

-- a refused card of a deck or of assembly, as it is told
abbrev pub of_deck : {A : Type 0} → Result A deck.Refusal → Admission A
of_deck (Ok a) = Ok a
of_deck (Err r) = Err (refusal.Deck r.card r.reason)

abbrev pub of_cards : {A : Type 0} → Result A deck.Refusal → Admission A
of_cards (Ok a) = Ok a
of_cards (Err r) = Err (refusal.Asm r.card r.reason)

-- the reason of bytes that are no codefile, and the byte
abbrev pub told_of : ℕ → BadFile → Refusal
told_of card (bad.Short at) = refusal.Codefile card 1 at
told_of card (bad.BadHeader at) = refusal.Codefile card 2 at
told_of card (bad.BadWord at) = refusal.Codefile card 3 at
told_of card (bad.TooMany at) = refusal.Codefile card 4 at
told_of card (bad.Trailing at) = refusal.Codefile card 5 at
told_of card (bad.BadEntry at) = refusal.Codefile card 6 at
told_of card bad.Memory = refusal.Codefile card 0 0

-- a codefile, or why bytes are none, by a card
abbrev pub codefile_in : ℕ → Result Codefile BadFile → Admission Codefile
codefile_in card (Ok file) = Ok file
codefile_in card (Err e) = Err (told_of card e)

-- a codefile's program, or why its bytes are none, by the card of the body
abbrev pub of_file : ℕ → Result Codefile BadFile → Admission Program
of_file card file = codefile_in card file >>= λ file. Ok (program_of file)

-- a job's program
abbrev pub program_in : ℕ → Body → Admission Program
program_in card (Cards cards) = of_cards (assembled cards)
program_in card (Bytes bytes) = of_file card (file_of bytes)

-- the programs of jobs, in job order
abbrev pub programs : List Job → Admission (List Program)
programs [] = Ok []
programs (j ∷ more) = do
  p ← program_in j.body_card j.program
  ps ← programs more
  Ok (p ∷ ps)

-- the first rule that a program breaks
abbrev pub first_broken_rule : Program → Option loader.Refusal
first_broken_rule p = first_of (refusals p)

-- the same by the card of its job
abbrev pub by_rules : ℕ → Option loader.Refusal → Admission ⊤
by_rules card None = Ok tt
by_rules card (Some r) = Err (refusal.Load card r.rule r.segment r.place)

-- every program is admitted, in job order
abbrev pub admitted : List Job → List Program → Admission ⊤
admitted [] ps = Ok tt
admitted (j ∷ more) [] = Ok tt
admitted (j ∷ more) (p ∷ ps) = do
  _ ← by_rules j.card (first_broken_rule p)
  admitted more ps

-- the programs of a deck's jobs
abbrev pub prepared : List Job → Admission (List Program)
prepared jobs = do
  ps ← programs jobs
  _ ← admitted jobs ps
  Ok ps

-- a deck and its programs, one for each job
abbrev pub Prepared : Type 0
Prepared = Deck × List Program

-- the run that a deck with its programs asks for: the session that it opens, and its halt
abbrev pub run_of : Prepared → Run
run_of p = record { session = session_of p.0 p.1; halt = p.0.halt }

-- a deck with its programs, or the first refusal of these
abbrev pub with_programs : Deck → Admission Prepared
with_programs d = do
  ps ← prepared d.jobs
  Ok (d, ps)

-- the deck of a text, with its programs, or the first refusal of all
unfoldable pub deck_prepared : List ℕ → Admission Prepared
deck_prepared text = do
  d ← of_deck (deck_of text)
  with_programs d
