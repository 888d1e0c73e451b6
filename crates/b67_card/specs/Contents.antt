-- What cards add to a deck's jobs, the newest job first.
use Rattle.std.specs.Prelude.{◌≡◌, ℕ, ℤ, List, [], ◌∷◌, ◌++◌, map, reverse, unwrap_or, Option, Some, None, Result, Ok, Err, ⊤}
use Rattle.std.specs.Option.{option_to_list}
use Rattle.b67_model_text.specs.Hex.{digit_bytes}
use Rattle.b67_model_text.specs.declared.card.Card.{Card}
use Rattle.b67_model_text.specs.declared.deck.Stand.{Stand}
use Rattle.b67_model_text.specs.declared.deck.Stand.TheVariants.{InData}
use Rattle.b67_model_text.specs.declared.deck.Job as declared
use Rattle.b67_model_text.specs.declared.deck.Body.{Body}
use Rattle.b67_model_text.specs.declared.deck.Body.TheVariants.{Cards, Bytes}
use Rattle.b67_model_text.specs.Command.{Command, Job, Limit, Asm, Hex, Plain}
use Rattle.b67_model_text.specs.Placing.{stand, numbers, is_well_formed}
use Rattle.b67_model_text.specs.Deck.{Said, command_in}
use Rattle.b67_card.specs.declared.command.Refused.{Refused}
use Rattle.b67_card.specs.declared.command.Refused.TheVariants.{Reason, Memory}
use Rattle.b67_card.specs.declared.contents.Contents.{Contents}
use Rattle.b67_model.specs.declared.limits.TheConstants.{USUAL_LIMIT}

abbrev pub to_newest : (declared.Job → declared.Job) → List declared.Job → List declared.Job
to_newest f [] = []
to_newest f (job ∷ older) = f job ∷ older

-- a job that is just begun
abbrev pub new_job : ℕ → List ℕ → declared.Job
new_job number name = record { name = name; limit = USUAL_LIMIT; card = number; body_card = 0; program = Cards []; numbers = [] }

abbrev pub with_card : Card → Body → Body
with_card card (Cards cards) = Cards (cards ++ card ∷ [])
with_card card (Bytes bytes) = Bytes (bytes ++ digit_bytes card.text)

abbrev pub with_text : Stand → Card → declared.Job → declared.Job
with_text InData card job = record job { numbers = job.numbers ++ unwrap_or (numbers card.text) [] }
with_text _ card job = record job { program = with_card card job.program }

abbrev pub with_limit : ℕ → declared.Job → declared.Job
with_limit n job = record job { limit = n }

abbrev pub with_program : ℕ → Body → declared.Job → declared.Job
with_program number program job = record job { body_card = number; program = program }

-- what a card adds that stands there
abbrev pub jobs_with : Stand → ℕ → Command → List declared.Job → List declared.Job
jobs_with s number (Job name) jobs = new_job number name ∷ jobs
jobs_with s number (Limit n) jobs = to_newest (with_limit n) jobs
jobs_with s number Asm jobs = to_newest (with_program number (Cards [])) jobs
jobs_with s number Hex jobs = to_newest (with_program number (Bytes [])) jobs
jobs_with s number (Plain text) jobs = to_newest (with_text s (record { number = number; text = text })) jobs
jobs_with s number _ jobs = jobs

-- the jobs that cards tell, the nearest card first
abbrev pub jobs_told : List Said → List declared.Job
jobs_told [] = []
jobs_told (s ∷ before) = jobs_with (stand (map command_in before)) s.number s.command (jobs_told before)

-- these are the jobs
pub record HoldsJobs (c : Contents) (jobs : List declared.Job) : Type 0 where
  pub all : jobs ≡ option_to_list c.newest ++ reverse c.older
  pub none : c.newest ≡ None → jobs ≡ []

-- the job has what a plain card adds to it, or the card is refused for its digits
abbrev pub Filled : Result ⊤ Refused → Stand → Card → declared.Job → declared.Job → Type 0
Filled (Ok done) s card old new = (is_well_formed s (Plain card.text) ≡ Ok tt) × (new ≡ with_text s card old)
Filled (Err (Reason r)) s card old new = is_well_formed s (Plain card.text) ≡ Err r
Filled (Err Memory) s card old new = Unit {0}

-- the numbers of a card are appended
abbrev pub Appended : Result ⊤ Refused → Option (List ℤ) → List ℤ → List ℤ → Type 0
Appended (Ok done) (Some more) old new = new ≡ old ++ more
Appended (Ok done) None old new = ⊥
Appended (Err (Reason r)) found old new = (r ≡ 12) × (found ≡ None)
Appended (Err Memory) found old new = Unit {0}

-- the jobs have what a card adds, or it is refused for its digits
abbrev pub AddsCard : Result ⊤ Refused → Stand → ℕ → Command → List declared.Job → Contents → Type 0
AddsCard (Ok done) s number c jobs new = (is_well_formed s c ≡ Ok tt) × HoldsJobs new (jobs_with s number c jobs)
AddsCard (Err (Reason r)) s number c jobs new = is_well_formed s c ≡ Err r
AddsCard (Err Memory) s number c jobs new = Unit {0}
