-- Every deck that is read is within the ranges of its cards.
use Rattle.std.specs.Prelude.{◌≡◌, ◌≤◌, ℕ, true, List, length, Ok}
use Rattle.std.specs.List.{AllByRecursion}
use Rattle.b67_model.specs.Program.{Program}
use Rattle.b67_model_text.specs.declared.deck.Deck.{Deck}
use Rattle.b67_model_text.specs.declared.deck.Job.{Job}
use Rattle.b67_model_text.specs.Cards.{is_name}
use Rattle.b67_model_text.specs.Deck.{deck_of}
use Rattle.b67_job.specs.Admitting.{deck_prepared}
use Rattle.b67_session.specs.Decks.{DeckInRange}
use Rattle.b67_image.specs.Within.{AreItems, IsSwitch}
use Rattle.b67_model.specs.declared.limits.TheConstants.{MOST_QUANTUM, MOST_SWITCHES}

abbrev pub DecksInRange : Type 0
DecksInRange = (text : List ℕ) (d : Deck) → deck_of text ≡ Ok d → DeckInRange d

-- and has a program for each of its jobs, once these are prepared
abbrev pub PreparedInRange : Type 0
PreparedInRange =
    (text : List ℕ) (d : Deck) (ps : List Program) → deck_prepared text ≡ Ok (d, ps) → DeckInRange d × (length ps ≡ length d.jobs)

-- what its cards say besides: how long turns are, how many switches there are and for whom, and names of jobs
pub record CardsInRange (d : Deck) : Type 0 where
  pub quantum_low : 1 ≤ d.quantum
  pub quantum_high : d.quantum ≤ MOST_QUANTUM
  pub switches : AreItems 0 MOST_SWITCHES IsSwitch d.switches
  pub names : AllByRecursion (λ (j : Job). is_name j.name ≡ true) d.jobs
