-- What a deck gives the session that it opens, within the ranges of cards.
use Rattle.std.specs.Prelude.{ℤ, ◌^◌, ◌<◌, ◌≤◌, nat_abs, IsTrue, List, length, map}
use Rattle.std.specs.List.{AllByRecursion, list_all}
use Rattle.std.specs.Char.{is_ascii}
use Rattle.b67_model_text.specs.declared.deck.Deck.{Deck}
use Rattle.b67_model_text.specs.declared.deck.Job.{Job}
use Rattle.b67_codefile.specs.declared.file.Codefile.{Codefile}
use Rattle.b67_codefile.specs.Spelling.{IsWithin}
use Rattle.b67_codefile.specs.Meaning.{program_of}
use Rattle.b67_model.specs.Common.{IsAdmitted, SwitchesRise}
pub use Rattle.b67_model_text.specs.Opening.{opening_of, openings_of, session_of}
use Rattle.b67_model_text.specs.Opening.{switch_of}
use Rattle.b67_task.specs.Tables.{JobGiven, Given}
pub use Rattle.b67_task.specs.Tables.{IsCountable, job_given, rows_given, given_of}
use Rattle.b67_model.specs.declared.limits.TheConstants.{LEAST_STACK, MOST_JOBS, MOST_LIMIT}

-- within the ranges of cards
pub record JobInRange (j : Job) : Type 0 where
  pub name_short : length j.name ≤ 16
  pub name_ascii : IsTrue (list_all is_ascii j.name)
  pub limit_low : 0 < j.limit
  pub limit_high : j.limit ≤ MOST_LIMIT
  pub numbers : AllByRecursion (λ (v : ℤ). nat_abs v < 2 ^ 39) j.numbers

pub record DeckInRange (d : Deck) : Type 0 where
  pub stack_low : LEAST_STACK ≤ d.stack
  pub stack_high : d.stack < 2 ^ 14
  pub rise : SwitchesRise (map switch_of d.switches)
  pub few : length d.jobs ≤ MOST_JOBS
  pub each : AllByRecursion JobInRange d.jobs

-- what a deck gives its jobs, and its machine
abbrev pub given_to : Job → JobGiven
given_to j = record { name = j.name; limit = j.limit; numbers = j.numbers }

abbrev pub jobs_given : List Job → List JobGiven
jobs_given jobs = map given_to jobs

abbrev pub deck_given : Deck → Given
deck_given d = record { halt = d.halt; quantum = d.quantum; switches = d.switches; jobs = jobs_given d.jobs }

-- a file as the loader admits it
pub record IsLoaded (f : Codefile) : Type 0 where
  pub within : IsWithin f
  pub admitted : IsAdmitted (program_of f)
