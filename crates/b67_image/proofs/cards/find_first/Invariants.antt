use Rattle.std.proofs.Common.{◌≡◌, ◌≤◌, ◌+◌, length}
use Rattle.b67_model_text.specs.Cards.{cards}
use Rattle.b67_card.proofs.Lines.{cards_from}
use Rattle.b67_image.specs.Text.{found_from}
use Rattle.b67_image.proofs.cards.find_first.Given as goal

abbrev pub invariant-lines : goal.invariant-lines
invariant-lines l = (l.number + length l.rest ≤ length l.text) × (found_from l.last (cards_from (l.number + 1) l.rest) ≡ found_from 0 (cards l.text))

abbrev pub decreases-lines : goal.decreases-lines
decreases-lines l = length l.rest
