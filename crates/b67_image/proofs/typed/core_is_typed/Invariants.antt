use Rattle.std.proofs.Common.{◌≡◌, ℕ, ◌≤◌, length, Some}
use Rattle.std.specs.Prelude.{slice_get}
use Rattle.b67_word.specs.Tagged.{Tagged, IsWord}
use Rattle.b67_image.proofs.typed.core_is_typed.Given as goal

abbrev pub invariant-words : goal.invariant-words
invariant-words l = (l.at ≤ length l.core) × ((i : ℕ) (w : Tagged) → l.at ≤ i → slice_get l.core i ≡ Some w → IsWord w)

abbrev pub decreases-words : goal.decreases-words
decreases-words l = l.at
