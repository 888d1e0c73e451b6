-- What the reader of a deck knows of the cards before, the nearest first.
use Rattle.std.specs.Prelude.{◌≡◌, List, [], ◌∷◌, map, Result, Ok, Err, ⊤}
use Rattle.b67_model_text.specs.declared.card.Card.{Card}
use Rattle.b67_model_text.specs.Command.{Command}
use Rattle.b67_model_text.specs.Placing.{arranged}
use Rattle.b67_model_text.specs.Deck.{Said, command_in, number_of_last, said_after}
use Rattle.b67_card.specs.Shape.{Shows}
use Rattle.b67_card.specs.Contents.{HoldsJobs, jobs_told}
use Rattle.b67_card.specs.declared.command.Refused.{Refused}
use Rattle.b67_card.specs.declared.command.Refused.TheVariants.{Reason, Memory}
use Rattle.b67_card.specs.declared.deck.Reader.{Reader}

-- each card may stand behind those before it
abbrev pub IsAccepted : List Command → Type 0
IsAccepted [] = Unit {0}
IsAccepted (c ∷ before) = (arranged before c ≡ Ok tt) × IsAccepted before

pub record Knows (r : Reader) (before : List Said) : Type 0 where
  pub shape : Shows r.shape (map command_in before)
  pub contents : HoldsJobs r.contents (jobs_told before)
  pub last : r.last ≡ number_of_last before
  pub accepted : IsAccepted (map command_in before)

-- the card says something behind those before, or is refused with its lowest reason
abbrev pub ReaderTook : Result ⊤ Refused → List Said → Card → Reader → Type 0
ReaderTook (Ok done) before card new = (s : Said) × (said_after before card ≡ Ok s) × Knows new (s ∷ before)
ReaderTook (Err (Reason r)) before card new = said_after before card ≡ Err r
ReaderTook (Err Memory) before card new = Unit {0}
