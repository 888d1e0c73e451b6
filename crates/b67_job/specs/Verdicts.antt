-- What the commands that open no session print of a text, or the first refusal of all.
use Rattle.std.specs.Prelude.{ℕ, List, [], ◌∷◌, ◌++◌, length, map, Option, Some, None, Ok, Err, codes, decimal, ⊤}
use Rattle.std.specs.List.{flat_map}
use Rattle.b67_word.specs.Tagged.{word}
use Rattle.b67_io.specs.Line.{ended}
use Rattle.b67_model.specs.State as state
use Rattle.b67_model.specs.Program.{Program}
use Rattle.b67_codefile.specs.declared.file.Segment.{Segment}
use Rattle.b67_codefile.specs.declared.file.Codefile.{Codefile}
use Rattle.b67_codefile.specs.Spelling.{spelling}
use Rattle.b67_codefile.specs.Reading.{file_of}
use Rattle.b67_codefile.specs.Meaning.{program_of}
use Rattle.b67_bind.specs.declared.pairs.Pair.{Pair}
use Rattle.b67_bind.specs.Reasons as pairs
use Rattle.b67_bind.specs.Reasons.{Binding, binding}
use Rattle.b67_bind.specs.Bound.{bound}
use Rattle.b67_model_text.specs.declared.card.Card.{Card}
use Rattle.b67_model_text.specs.declared.deck.Body.{Body}
use Rattle.b67_model_text.specs.declared.deck.Body.TheVariants.{Cards, Bytes}
use Rattle.b67_model_text.specs.declared.deck.Job.{Job}
use Rattle.b67_model_text.specs.declared.deck.Deck.{Deck}
use Rattle.b67_model_text.specs.Hex.{hex_cards}
use Rattle.b67_model_text.specs.Deck.{deck_of, plain_cards, hexadecimal_cards, bytes_in, first_number}
use Rattle.b67_model_text.specs.Asm.{assembled, version_of}
use Rattle.b67_job.specs.Admitting.{Admission, ◌>>=◌, of_deck, of_cards, codefile_in, first_broken_rule, by_rules, deck_prepared}
use Rattle.b67_job.specs.declared.refusal.Refusal.TheVariants as refusal

-- the text to print, or the first refusal
abbrev pub Verdict : Type 0
Verdict = Admission (List ℕ)

-- ---- check

-- a job's name, and how many segments and data rows its program has
abbrev pub job_line : Job → Program → List ℕ
job_line job p = job.name ++ codes " ADMITTED " ++ decimal (length p.segments) ++ codes " " ++ decimal (length p.rows)

abbrev pub job_lines : List Job → List Program → List ℕ
job_lines (job ∷ jobs) (p ∷ ps) = ended (job_line job p) ++ job_lines jobs ps
job_lines _ _ = []

-- a line for each job of a deck, in job order, where all are admitted
unfoldable pub check_verdict : List ℕ → Verdict
check_verdict text = do
  prepared ← deck_prepared text
  Ok (job_lines prepared.0.jobs prepared.1)

-- ---- asm

-- the codefile of a program in a version: words of code have tag 3, words of data rows tag 0
abbrev pub segment_file : state.Segment → Segment
segment_file s = record { level = s.level; entries = s.entries; code = map (word 3) s.code }

abbrev pub codefile_of : ℕ → Program → Codefile
codefile_of version p = record { version = version; segments = map segment_file p.segments; rows = map (map (word 0)) p.rows }

-- the hexadecimal cards of bytes, each on a line
abbrev pub hex_lines : List ℕ → List ℕ
hex_lines bytes = flat_map ended (hex_cards bytes)

-- by cards: the hexadecimal cards of the codefile that they denote
abbrev pub asm_of : List Card → Verdict
asm_of cards = do
  p ← of_cards (assembled cards)
  Ok (hex_lines (spelling (codefile_of (version_of cards) p)))

-- by a whole text of assembly cards
unfoldable pub asm_verdict : List ℕ → Verdict
asm_verdict text = do
  cards ← of_deck (plain_cards text)
  asm_of cards

-- ---- convert

-- by hexadecimal cards: those of the file of version 2 with the same segments and rows; a card is named even where none is
abbrev pub converted_of : List Card → Verdict
converted_of cards = do
  file ← codefile_in (first_number cards) (file_of (bytes_in cards))
  Ok (hex_lines (spelling (record file { version = 2 })))

-- by a whole text of hexadecimal cards
unfoldable pub convert_verdict : List ℕ → Verdict
convert_verdict text = do
  cards ← of_deck (hexadecimal_cards text)
  converted_of cards

-- ---- bind

-- the codefile of a job's program
abbrev pub file_in : ℕ → Body → Admission Codefile
file_in card (Cards cards) = of_cards (assembled cards) >>= λ p. Ok (codefile_of (version_of cards) p)
file_in card (Bytes bytes) = codefile_in card (file_of bytes)

-- the host's job and the part's, of a deck that has just these two
abbrev pub two_jobs : List Job → Admission (Job × Job)
two_jobs (host ∷ part ∷ []) = Ok (host, part)
two_jobs (host ∷ part ∷ third ∷ more) = Err (refusal.Deck third.card 15)
two_jobs _ = Err (refusal.Deck 1 15)

-- the first refused pair
abbrev pub by_pairs : Option pairs.PairRefusal → Admission ⊤
by_pairs None = Ok tt
by_pairs (Some r) = Err (refusal.Bind r.pair r.reason)

-- by two programs that are admitted: the cards of the bound file
abbrev pub bound_text : Binding → Verdict
bound_text x = do
  _ ← by_pairs (pairs.first_refusal x)
  Ok (hex_lines (spelling (bound x)))

-- by the two jobs: both are assembled or read, and then both are admitted
abbrev pub bind_jobs : List Pair → Job → Job → Verdict
bind_jobs list h p = do
  host ← file_in h.body_card h.program
  part ← file_in p.body_card p.program
  _ ← by_rules h.card (first_broken_rule (program_of host))
  _ ← by_rules p.card (first_broken_rule (program_of part))
  bound_text (binding host part list)

-- by a deck
abbrev pub bind_deck : List Pair → Deck → Verdict
bind_deck list d = do
  both ← two_jobs d.jobs
  bind_jobs list both.0 both.1

-- by a whole text of a deck
unfoldable pub bind_verdict : List Pair → List ℕ → Verdict
bind_verdict list text = do
  d ← of_deck (deck_of text)
  bind_deck list d
