use Rattle.std.proofs.Common.{◌≡◌, ℕ, ◌<◌, ◌^◌, Some}
use Rattle.std.specs.List.{slice_get}
use Rattle.b67_word.specs.Tagged.{Tagged}
use Rattle.b67_image_shape.proofs.small_words.words_are_small.Given as goal

abbrev pub invariant-each : goal.invariant-each
invariant-each l = (n : ℕ) (w : Tagged) → n < l.at → slice_get l.core n ≡ Some w → w.bits < 2 ^ 48
