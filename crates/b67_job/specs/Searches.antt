-- What a search through the run of a deck answers.
use Rattle.std.specs.Prelude.{◌≡◌, ◌≢◌, ◌≤◌, ◌<◌, ℕ, List, map, Option, None, Ok, Err}
use Rattle.b67_io.specs.Told.{GaveAll}
use Rattle.b67_io.specs.Causes.{Rose}
use Rattle.b67_codefile.specs.Meaning.{program_of}
use Rattle.b67_model.specs.Common.{Run}
use Rattle.b67_task.specs.declared.tables.Machine.{Machine}
use Rattle.b67_job.specs.Admitting.{Prepared}
use Rattle.b67_job.specs.Meets.{LoadsDeck, prepared_of}
use Rattle.b67_job.specs.declared.programs.Loaded.{Loaded}
use Rattle.b67_session.specs.Opens.{OpensAs, IsOpened}
use Rattle.b67_layout.specs.Machine.{content_after}
use Rattle.b67_session.specs.Stops.{Stop}
use Rattle.b67_session.specs.Stops as stops
use Rattle.b67_session.specs.Search.{FindsLeast, ComesTo, StopsUnfound}
use Rattle.b67_session.specs.declared.seeking.CodePlace.{CodePlace}
use Rattle.b67_session.specs.declared.seeking.Sought.{Sought}
use Rattle.b67_job.specs.Judgement.{Runs, judgement}
use Rattle.b67_job.specs.Runs.{run_of, IsBeforeHalt}
use Rattle.b67_job.specs.declared.searching.SearchFault.{SearchFault}
use Rattle.b67_job.specs.declared.searching.SearchFault.TheVariants as reasons

-- a count of operators that a search looks at: this one or a later one, among the first, and before the halt
pub record IsLookedAt (from most : ℕ) (r : Run) (n : ℕ) : Type 0 where
  pub later : from ≤ n
  pub few : n < most
  pub before_halt : IsBeforeHalt r n

-- the source gave a deck to its end, and of its run this is the least of these counts at which what is sought holds, or none does. Core has
-- the words of the steps before it, and where none does, or the deepest is sought, of all that are looked at
pub record FindsInDeck {S : Type 0} (left : S → Option (List ℕ)) (deck deck' : S) (core : ℕ) (what : Sought) (places : List CodePlace) (from most : ℕ) (found : Option ℕ) : Type 0 where
  pub text : List ℕ
  pub prepared : Prepared
  pub read : GaveAll left deck deck' text
  pub runs : judgement text ≡ Runs prepared
  pub least : FindsLeast what places (IsLookedAt from most (run_of prepared)) (run_of prepared).session found
  pub comes : ComesTo what core (IsLookedAt from most (run_of prepared)) (run_of prepared).session found

-- the same of a deck's text
pub record FindsInText (text : List ℕ) (core : ℕ) (what : Sought) (places : List CodePlace) (from most : ℕ) (found : Option ℕ) : Type 0 where
  pub prepared : Prepared
  pub runs : judgement text ≡ Runs prepared
  pub least : FindsLeast what places (IsLookedAt from most (run_of prepared)) (run_of prepared).session found
  pub comes : ComesTo what core (IsLookedAt from most (run_of prepared)) (run_of prepared).session found

-- the search stops where the run of the deck does: a session was opened, on a machine that represents the deck's, and if the device
-- told what its sectors hold, nothing that is sought came before the stop. A failure is the device's, and never a printer's
pub record StopsInDeck {B : Type 0} (holds : B → Option (List (List ℕ))) (size faults : B → ℕ) (device device' : B) (core : ℕ) (p : Prepared) (what : Sought) (places : List CodePlace) (from most : ℕ) (stop : Stop) : Type 0 where
  pub said : Option (List (List ℕ))
  pub opened : Machine
  pub left : Machine
  pub opens : OpensAs said p.0 p.1 core (size device) opened
  pub known : holds device ≢ None → said ≢ None
  pub unfound : said ≢ None → StopsUnfound (content_after said (holds device')) (said ≢ None) (size device) what places from most (run_of p).session stop opened left
  pub failed : stop ≡ stops.BackingFault → Rose faults device device'
  pub unprinted : stop ≢ stops.PrintFault

-- why a search answers nothing: the deck isn't admitted, or no session is opened, by the cause that is told; or the run stops
abbrev pub FailsInDeck : {S B : Type 0} → (S → Option (List ℕ)) → (S → ℕ) → S → S → (B → Option (List (List ℕ))) → (B → ℕ) → (B → ℕ) → B → B → ℕ → Sought → List CodePlace → ℕ → ℕ → SearchFault → Type 0
FailsInDeck left source_faults deck deck' holds size faults device device' core what places from most (reasons.Admit fault) = LoadsDeck left source_faults deck deck' (Err fault) × (device' ≡ device)
FailsInDeck left source_faults deck deck' holds size faults device device' core what places from most (reasons.Open fault) =
    (loaded : Loaded) × LoadsDeck left source_faults deck deck' (Ok loaded) × IsOpened holds size faults loaded.deck (map program_of loaded.programs) core device device' (Err fault)
FailsInDeck left source_faults deck deck' holds size faults device device' core what places from most (reasons.Stop stop) =
    (loaded : Loaded) × LoadsDeck left source_faults deck deck' (Ok loaded) × StopsInDeck holds size faults device device' core (prepared_of loaded) what places from most stop
