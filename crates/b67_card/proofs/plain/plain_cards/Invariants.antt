use Rattle.std.proofs.Common.{◌≡◌, ◌≤◌, ◌+◌, ◌++◌, length}
use Rattle.b67_model_text.specs.Cards.{cards}
use Rattle.b67_model_text.specs.Deck.{all_plain}
use Rattle.b67_card.proofs.Lines.{cards_from}
use Rattle.b67_card.proofs.plain.plain_cards.Given as goal

-- the cards so far are plain, and with those of the rest they are all the cards
abbrev pub invariant-loop-rest : goal.invariant-loop-rest
invariant-loop-rest l = (l.number + length l.rest ≤ length l.text) × (l.cards ++ cards_from (l.number + 1) l.rest ≡ cards l.text) × (all_plain (cards_from (l.number + 1) l.rest) ≡ all_plain (cards l.text))

abbrev pub decreases-loop-rest : goal.decreases-loop-rest
decreases-loop-rest l = length l.rest
