use Rattle.std.proofs.Common.{◌≡◌, ◌≤◌, ◌+◌, length}
use Rattle.b67_card.proofs.Lines.{cards_from}
use Rattle.b67_image.specs.Text.{bytes_from}
use Rattle.b67_image.proofs.Gathers.{with_bytes}
use Rattle.b67_image.proofs.cards.gather.Given as goal

abbrev pub invariant-lines : goal.invariant-lines
invariant-lines l = (l.number + length l.rest ≤ l.card + length l.text) × (with_bytes l.bytes (bytes_from l.last (cards_from (l.number + 1) l.rest)) ≡ bytes_from l.card (cards_from (l.card + 1) l.text))

abbrev pub decreases-lines : goal.decreases-lines
decreases-lines l = length l.rest
