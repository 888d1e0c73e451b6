use Rattle.std.proofs.Common.{◌≡◌, ◌≤◌, ◌+◌, List, [], length}
use Rattle.b67_model_text.specs.Cards.{cards}
use Rattle.b67_model_text.specs.Deck.{Said, sayings}
use Rattle.b67_card.specs.Reader.{Knows}
use Rattle.b67_card.proofs.Lines.{cards_from}
use Rattle.b67_card.proofs.deck.read_text.Given as goal

-- the cards so far are behind the reader, and what it says with the rest is what all say
abbrev pub invariant-loop-rest : goal.invariant-loop-rest
invariant-loop-rest l = (l.number + length l.rest ≤ length l.text) × ((before : List Said) × Knows l.reader before × (sayings before (cards_from (l.number + 1) l.rest) ≡ sayings [] (cards l.text)))

abbrev pub decreases-loop-rest : goal.decreases-loop-rest
decreases-loop-rest l = length l.rest
