use Rattle.std.proofs.Common.{◌≡◌, ℕ, ◌+◌, ◌<◌}
use Rattle.b67_layout_shown.specs.Reading.{word_seen_at}
use Rattle.b67_image_shape.proofs.objects.have_tag.Given as goal

abbrev pub invariant-each : goal.invariant-each
invariant-each l = (i : ℕ) → i < l.j → (word_seen_at l.core (l.at + i)).tag ≡ l.tag
