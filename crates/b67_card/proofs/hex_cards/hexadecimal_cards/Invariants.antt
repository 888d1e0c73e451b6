use Rattle.std.proofs.Common.{◌≡◌, ◌≤◌, ◌+◌, ◌++◌, length}
use Rattle.b67_model_text.specs.Cards.{cards}
use Rattle.b67_model_text.specs.Deck.{all_hexadecimal}
use Rattle.b67_card.proofs.Lines.{cards_from}
use Rattle.b67_card.proofs.hex_cards.hexadecimal_cards.Given as goal

-- the cards so far are hexadecimal, and with those of the rest they are all the cards
abbrev pub invariant-loop-rest : goal.invariant-loop-rest
invariant-loop-rest l = (l.number + length l.rest ≤ length l.text) × (l.cards ++ cards_from (l.number + 1) l.rest ≡ cards l.text) × (all_hexadecimal (cards_from (l.number + 1) l.rest) ≡ all_hexadecimal (cards l.text))

abbrev pub decreases-loop-rest : goal.decreases-loop-rest
decreases-loop-rest l = length l.rest
