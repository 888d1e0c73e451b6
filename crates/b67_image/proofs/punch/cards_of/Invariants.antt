use Rattle.std.proofs.Common.{◌≡◌, ◌+◌, ◌*◌, ◌/◌, ◌≤◌, ◌++◌, length}
use Rattle.b67_image.specs.Text.{card_lines}
use Rattle.b67_image.proofs.punch.cards_of.Given as goal

abbrev pub invariant-cards : goal.invariant-cards
invariant-cards l = record {
  text : l.cards.items ++ card_lines l.left ≡ card_lines l.bytes;
  room : length l.cards.items + 65 * ((length l.left + 31) / 32) ≤ 4160;
}

abbrev pub decreases-cards : goal.decreases-cards
decreases-cards l = length l.left
